mod Names
