-- What a call by name reaches.
use Rattle.std.proofs.Common.{◌≡◌, ℕ, List, Option, Some, None, Result, Ok, Err, refl, sym, ap, subst, arith}
use Rattle.std.specs.Option.{option_map}
use Rattle.resin_meaning_forms.specs.Under.store.Files.{LabelledFiles}
use Rattle.resin_meaning_forms.specs.Under.base.TableStore.{TableStore}
use Rattle.resin_meaning_forms.specs.Under.base.declared.calls.Calls.{Calls}
use Rattle.resin_meaning_forms.specs.Under.scalar.declared.faults.ScriptFault.TheVariants.{UndefinedFunction}
use Rattle.resin_meaning_forms.specs.Under.tree.declared.declaration.Function.{Function}
use Rattle.resin_meaning_forms.specs.Under.builtin.declared.builtin.Builtin.{Builtin as KnownBuiltin}
use Rattle.resin_meaning_forms.specs.Under.builtin.Names.{builtin_named}
use Rattle.resin_meaning_forms.specs.Under.machine.declared.stop.Stop.{Stop}
use Rattle.resin_meaning_forms.specs.Under.machine.declared.stop.Stop.TheVariants.{Thrown, Exit, Fault, Keeper, Memory}
use Rattle.resin_meaning_forms.specs.Under.machine.State.{State}
use Rattle.resin_meaning_forms.specs.Under.machine.Steps.{Acts, Acted, faults}
use Rattle.resin_meaning_forms.specs.Under.machine.Objects.{function_named, found_function, find_function}
use Rattle.resin_meaning_forms.proofs.target_lemmas.machine_kept.{keeps_same}
use Rattle.resin_meaning_forms.specs.Under.meaning.Runs.{Seen, world, Does}
use Rattle.resin_meaning_forms.proofs.meaning_lemmas.Composition.{does_act, does_next, does_give, does_lost}
use Rattle.resin_meaning_forms.specs.declared.callee.Callee.{Callee}
use Rattle.resin_meaning_forms.specs.declared.callee.Callee.TheVariants.{Script, Builtin, State as OfState, Channel}
use Rattle.resin_meaning_forms.specs.declared.callee.StateFunction.{StateFunction}
use Rattle.resin_meaning_forms.specs.declared.callee.ChannelFunction.{ChannelFunction}
use Rattle.resin_meaning_forms.specs.Parts.{looked}
use Rattle.resin_meaning_forms.specs.Names.{state_named, channel_named, own_named, or_else, callee_named, or_unknown, find_callee}
use Rattle.resin_step_parts.specs.Callees.{IsCalled}
use Rattle.resin_step_parts.proofs.Answered.{does_looked}

-- the three kinds of the runtime's functions, in order
abbrev chosen : Option StateFunction → Option ChannelFunction → Option KnownBuiltin → Option Callee
chosen s c b = or_else (option_map OfState s) (or_else (option_map Channel c) (option_map Builtin b))

pub own_is : (name : List ℕ) (s : Option StateFunction) (c : Option ChannelFunction) (b : Option KnownBuiltin) → state_named name ≡ s → channel_named name ≡ c → builtin_named name ≡ b → own_named name ≡ chosen s c b
own_is name s c b p q r = λ i. chosen (p i) (q i) (r i)

pub own_state : (name : List ℕ) (s : StateFunction) → state_named name ≡ Some s → own_named name ≡ Some (OfState s)
own_state name s p = λ i. chosen (p i) (channel_named name) (builtin_named name)

pub own_channel : (name : List ℕ) (c : ChannelFunction) → state_named name ≡ None → channel_named name ≡ Some c → own_named name ≡ Some (Channel c)
own_channel name c p q = λ i. chosen (p i) (q i) (builtin_named name)

same_callee : (x y : Callee) → ◌≡◌ {A = Option Callee} (Some x) (Some y) → x ≡ y
same_callee x y e = cc

no_callee : (x : Callee) → ◌≡◌ {A = Option Callee} None (Some x) → ⊥
no_callee x e = cc

pub called_own : (name : List ℕ) (callee : Callee) → own_named name ≡ Some callee → IsCalled name callee
called_own name callee e = by (state_named name) (channel_named name) (builtin_named name) refl e
  where
    by : (s : Option StateFunction) (c : Option ChannelFunction) (b : Option KnownBuiltin) → builtin_named name ≡ b → chosen s c b ≡ Some callee → IsCalled name callee
    by (Some s) c b p h = subst (IsCalled name) (same_callee (OfState s) callee h) tt
    by None (Some c) b p h = subst (IsCalled name) (same_callee (Channel c) callee h) tt
    by None None (Some b) p h = subst (IsCalled name) (same_callee (Builtin b) callee h) p
    by None None None p h = absurd (no_callee callee h)

pub found_own : (name : List ℕ) (m : State) (callee : Callee) → own_named name ≡ Some callee → (f : Seen LabelledFiles) (t : Seen TableStore) (k : Calls) → Does (find_callee name) (world m f t k) (Ok callee) (world m f t k)
found_own name m callee e f t k =
    does_next (looked (callee_named name)) or_unknown
    (does_looked (callee_named name) (Some callee) m (λ i. or_else (sym e i) (option_map Script (function_named name m))) f t k)
    (does_give callee (world m f t k))

-- the function of a script, where the runtime has none of the name
script_is : (name : List ℕ) (m : State) (o : Option Function) → own_named name ≡ None → function_named name m ≡ o → option_map Script o ≡ callee_named name m
script_is name m o e h = λ i. or_else (sym e i) (option_map Script (sym h i))

end_of : (x y : Result Function Stop) (m m' : State) → ◌≡◌ {A = Result Function Stop × State} (x, m) (y, m') → x ≡ y
end_of x y m m' e = ap (λ (p : Result Function Stop × State). p.0) e

same_function : (g h : Function) → ◌≡◌ {A = Result Function Stop} (Ok g) (Ok h) → g ≡ h
same_function g h e = cc

no_function : (s : Stop) (g : Function) → ◌≡◌ {A = Result Function Stop} (Err s) (Ok g) → ⊥
no_function s g e = cc

pub found_script : (name : List ℕ) (m : State) (g : Function) → own_named name ≡ None → Acts (find_function name) m (Ok g) m → (f : Seen LabelledFiles) (t : Seen TableStore) (k : Calls) → Does (find_callee name) (world m f t k) (Ok (Script g)) (world m f t k)
found_script name m g e a f t k =
    does_next (looked (callee_named name)) or_unknown
    (does_looked (callee_named name) (Some (Script g)) m (script_is name m (Some g) e (there (function_named name m) a.acted)) f t k)
    (does_give (Script g) (world m f t k))
  where
    there : (o : Option Function) → found_function o m ≡ (Ok g, m) → o ≡ Some g
    there None h = absurd (no_function (Fault UndefinedFunction m.line) g (end_of (Err (Fault UndefinedFunction m.line)) (Ok g) m m h))
    there (Some x) h = ap Some (same_function x g (end_of (Ok x) (Ok g) m m h))

abbrev recast : Result Function Stop → Result Callee Stop
recast (Ok g) = Ok (Script g)
recast (Err s) = Err s

pub found_none : (name : List ℕ) (m : State) (s : Stop) → own_named name ≡ None → Acts (find_function name) m (Err s) m → (f : Seen LabelledFiles) (t : Seen TableStore) (k : Calls) → Does (find_callee name) (world m f t k) (Err s) (world m f t k)
found_none name m s e a f t k = by (function_named name m) refl a.acted
  where
    none : (s : Stop) → Acted {A = Function} (faults UndefinedFunction) m (Err s) m → Acted {A = Callee} (faults UndefinedFunction) m (Err s) m
    none (Thrown o) h = ap (λ (p : Result Function Stop × State). (recast p.0, p.1)) h
    none Exit h = ap (λ (p : Result Function Stop × State). (recast p.0, p.1)) h
    none (Fault x line) h = ap (λ (p : Result Function Stop × State). (recast p.0, p.1)) h
    none Keeper h = h
    none Memory h = h

    no : (g : Function) (s : Stop) → ◌≡◌ {A = Result Function Stop × State} (Ok g, m) (Err s, m) → ⊥
    no g s h = no_function s g (sym (end_of (Ok g) (Err s) m m h))

    lost : (g : Function) (s : Stop) → function_named name m ≡ Some g → Acted {A = Function} (found_function (Some g)) m (Err s) m → Does (find_callee name) (world m f t k) (Err s) (world m f t k)
    lost g (Thrown o) q h = absurd (no g (Thrown o) h)
    lost g Exit q h = absurd (no g Exit h)
    lost g (Fault x line) q h = absurd (no g (Fault x line) h)
    lost g Keeper q h = absurd h
    lost g Memory q h = does_lost (looked (callee_named name)) or_unknown (does_looked (callee_named name) (Some (Script g)) m (script_is name m (Some g) e q) f t k)

    by : (o : Option Function) → function_named name m ≡ o → Acted {A = Function} (found_function o) m (Err s) m → Does (find_callee name) (world m f t k) (Err s) (world m f t k)
    by None q h =
        does_next (looked (callee_named name)) or_unknown
        (does_looked (callee_named name) None m (script_is name m None e q) f t k)
        (does_act (faults UndefinedFunction) f t k (record { acted = none s h; ticks = omega arith; keeps = keeps_same m; ties = λ ne x. x }))
    by (Some g) q h = lost g s q h
