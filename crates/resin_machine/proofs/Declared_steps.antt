-- Declaring a class, by what the table of classes answers.
use Rattle.std.proofs.Common.{◌≡◌, ℕ, ◌<◌, [], ◌∷◌, ◌++◌, length, Option, Some, None, IsSome, Result, Ok, Err, is_some, refl, sym, ap, subst, ◌∙◌, ◌↔◌}
use Rattle.resin_heap.specs.Under.tree.declared.declaration.ClassDecl.{ClassDecl}
use Rattle.resin_heap.specs.Classes.{Table, find_class, NamesNoParent}
use Rattle.resin_heap.specs.declared.classes.ClassFault.{ClassFault}
use Rattle.resin_heap.specs.declared.classes.ClassFault.TheVariants.{Redeclared as IsThere, NoParent, Memory as NoMemory}
use Rattle.resin_machine.specs.declared.stop.Stop.{Stop}
use Rattle.resin_machine.specs.State.{State}
use Rattle.resin_machine.specs.Steps.{Acts}
use Rattle.resin_machine.specs.Objects.{last_number, declare_class, class_stop}
use Rattle.resin_machine.proofs.Taken.{wanting}
use Rattle.resin_machine.proofs.Declared.{is_there, not_there, lacks, lacks_none}
use Rattle.resin_machine.proofs.Object_steps.{class_declared, class_redeclared, class_orphaned}

-- what a table answers for a declaration
pub record Answers (d : ClassDecl) (classes : Table) (r : Result ℕ ClassFault) : Type 0 where
  pub redeclared : (r ≡ Err IsThere) ↔ IsSome (find_class classes d.name)
  pub no_parent : (r ≡ Err NoParent) ↔ ((find_class classes d.name ≡ None) × NamesNoParent classes d)

none_of : {X : Type 0} (o : Option X) → (IsSome o → ⊥) → o ≡ None
none_of None h = refl
none_of (Some x) h = absurd (h refl)

-- it was declared
pub declared_acts : (d : ClassDecl) (m m0 : State) (n : ℕ) (r : Result ℕ ClassFault) (classes : Table) → m0 ≡ m → length m0.classes < last_number → Answers d m0.classes r → r ≡ Ok n → classes ≡ m0.classes ++ d ∷ []
    → Acts (declare_class d) m (Ok tt) (record m0 { classes = classes })
declared_acts d m m0 n r classes e0 lt a e ec =
    let absent : IsSome (find_class m0.classes d.name) → ⊥ = λ h. let k : r ≡ Err IsThere = a.redeclared.1 h in absurd (cc) in
    class_declared d m m0 classes e0 lt (not_there (find_class m0.classes d.name) absent)
    (lacks_none m0.classes d (λ h. let k : r ≡ Err NoParent = a.no_parent.1 (none_of (find_class m0.classes d.name) absent, h) in absurd (cc))) ec

-- it was refused
pub refused_acts : (d : ClassDecl) (m m0 : State) (fault : ClassFault) (stop : Stop) (line : ℕ) (r : Result ℕ ClassFault) (classes : Table) → m0 ≡ m → line ≡ m0.line → length m0.classes < last_number → Answers d m0.classes r → r ≡ Err fault
    → classes ≡ m0.classes → stop ≡ class_stop fault line → Acts (declare_class d) m (Err stop) (record m0 { classes = classes })
refused_acts d m m0 fault stop line r classes e0 el lt a e ec es =
    subst (λ (x : State). Acts (declare_class d) x (Err stop) (record m0 { classes = classes })) e0
    (subst (λ (x : Table). Acts (declare_class d) m0 (Err stop) (record m0 { classes = x })) (sym ec)
    (subst (λ (s : Stop). Acts (declare_class d) m0 (Err s) m0) (sym (es ∙ ap (class_stop fault) el)) (cases fault e)))
  where
    cases : (fault : ClassFault) → r ≡ Err fault → Acts (declare_class d) m0 (Err (class_stop fault m0.line)) m0
    cases IsThere k = class_redeclared d m0 lt (is_there (find_class m0.classes d.name) (a.redeclared.0 k))
    cases NoParent k = let p = a.no_parent.0 k in class_orphaned d m0 lt (ap is_some p.0) (lacks m0.classes d p.1)
    cases NoMemory k = wanting (declare_class d) m0
