-- How declarations of classes are told apart.
use Rattle.std.specs.Prelude.{ℕ, List, Option}
use Rattle.std.proofs.Common.{refl}
use Rattle.std.specs.Coded.{Coded, code_by, coded×, coded_ℕ, coded_list, coded_option}
use Rattle.resin_tree.specs.contracts.declaration.Constant as constant
use Rattle.resin_tree.specs.contracts.statement.Stmt as statement
use Rattle.resin_tree.specs.declared.declaration.Constant.{Constant}
use Rattle.resin_tree.specs.declared.declaration.Parameter.{Parameter}
use Rattle.resin_tree.specs.declared.declaration.Property.{Property}
use Rattle.resin_tree.specs.declared.declaration.Function.{Function}
use Rattle.resin_tree.specs.declared.declaration.ClassDecl.{ClassDecl}
use Rattle.resin_tree.specs.declared.statement.Stmt.{Stmt}
use Rattle.resin_heap.specs.Classes.{Table}

abbrev pub bytes_code : Coded (List ℕ)
bytes_code = coded_list coded_ℕ

abbrev pub default_code : Coded (Option Constant)
default_code = coded_option constant.the_row.coded

abbrev pub parameter_code : Coded Parameter
parameter_code =
    code_by (List ℕ × Option Constant) (coded× bytes_code default_code)
    (λ p. (p.name, p.default)) (λ p. record { name = p.0; default = p.1 }) (λ _. refl)

abbrev pub property_code : Coded Property
property_code =
    code_by (List ℕ × Option Constant) (coded× bytes_code default_code)
    (λ p. (p.name, p.default)) (λ p. record { name = p.0; default = p.1 }) (λ _. refl)

abbrev pub function_code : Coded Function
function_code =
    code_by (ℕ × (List ℕ × (List Parameter × List Stmt)))
    (coded× coded_ℕ (coded× bytes_code (coded× (coded_list parameter_code) (coded_list statement.the_row.coded))))
    (λ f. (f.line, (f.name, (f.parameters, f.body)))) (λ p. record { line = p.0; name = p.1.0; parameters = p.1.1.0; body = p.1.1.1 }) (λ _. refl)

abbrev pub declaration_code : Coded ClassDecl
declaration_code =
    code_by (ℕ × (List ℕ × (Option (List ℕ) × (List Property × List Function))))
    (coded× coded_ℕ (coded× bytes_code (coded× (coded_option bytes_code) (coded× (coded_list property_code) (coded_list function_code)))))
    (λ d. (d.line, (d.name, (d.parent, (d.properties, d.methods)))))
    (λ p. record { line = p.0; name = p.1.0; parent = p.1.1.0; properties = p.1.1.1.0; methods = p.1.1.1.1 })
    (λ _. refl)

abbrev pub table_code : Coded Table
table_code = coded_list declaration_code
