-- Channels: the ways that data takes (RESIN's channels, under this project's names).
use Rattle.std.specs.Prelude.{ℕ, Bool, true, false, List, codes}
use Rattle.resin_journal.specs.declared.channel.Channel.{Channel}
use Rattle.resin_journal.specs.declared.channel.Channel.TheVariants.{Http, Header, Email, File, Sql, Code, Input, Func}

-- the name by which scripts and the denial log call a channel
abbrev pub channel_name : Channel → List ℕ
channel_name Http = codes "http"
channel_name Header = codes "header"
channel_name Email = codes "email"
channel_name File = codes "file"
channel_name Sql = codes "sql"
channel_name Code = codes "code"
channel_name Input = codes "input"
channel_name Func = codes "func"

-- data leaves by this channel: it goes to the client or into a mail
abbrev pub is_leaving : Channel → Bool
is_leaving Http = true
is_leaving Header = true
is_leaving Email = true
is_leaving File = false
is_leaving Sql = false
is_leaving Code = false
is_leaving Input = false
is_leaving Func = false
