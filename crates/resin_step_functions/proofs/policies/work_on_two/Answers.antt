use Rattle.resin_step_functions.proofs.policies.work_on_two.Goals as goal

pub returns-in-PolicyAdd : goal.returns-in-PolicyAdd
returns-in-PolicyAdd c =
    rw c.in-PolicyAdd.is c.add_policy.ensures

pub returns-in-PolicyRemove : goal.returns-in-PolicyRemove
returns-in-PolicyRemove c =
    rw c.in-PolicyRemove.is c.remove_policy.ensures

pub returns-in-PolicyGet : goal.returns-in-PolicyGet
returns-in-PolicyGet c =
    rw c.in-PolicyGet.is c.policy_list.ensures

pub returns-in-FilterAdd : goal.returns-in-FilterAdd
returns-in-FilterAdd c =
    rw c.in-FilterAdd.is c.add_filter.ensures

pub returns-in-FilterRemove : goal.returns-in-FilterRemove
returns-in-FilterRemove c =
    rw c.in-FilterRemove.is c.remove_filter.ensures

pub returns-in-FilterFunctionAdd : goal.returns-in-FilterFunctionAdd
returns-in-FilterFunctionAdd c =
    rw c.in-FilterFunctionAdd.is c.add_function_filter.ensures

pub returns-in-GetClass : goal.returns-in-GetClass
returns-in-GetClass c =
    rw c.in-GetClass.is c.class_name.ensures

pub returns-in-SqlStructure : goal.returns-in-SqlStructure
returns-in-SqlStructure c =
    rw c.in-SqlStructure.is c.query_structure.ensures

pub returns-in-HtmlStructure : goal.returns-in-HtmlStructure
returns-in-HtmlStructure c =
    rw c.in-HtmlStructure.is c.page_structure.ensures
