-- What each change of a state keeps holds at each point of a run.
use Rattle.std.proofs.Common.{◌≡◌, ℕ, List, [], ◌∷◌, Option, Some, subst}
use Rattle.std.proofs.lemmas.Option.{same_Some}
use Rattle.c_language.proofs.Options.{none_there, then_there}
use Rattle.c_tree.specs.declared.expr.Expr.{Expr}
use Rattle.c_meaning.specs.declared.value.Value.{Value}
use Rattle.c_meaning.specs.Values.{Types, State, variable_opened, all_closed, as_type, eval_all}
use Rattle.c_meaning.specs.Acts.{Made, after}
use Rattle.c_meaning.specs.Activations.{Executable, types_in, opening, parameter_begun, passed, fresh, passed_to, called, resumed}
use Rattle.c_meaning.specs.Steps.{Waiting, Reaches, Point, machine, beginning}
use Rattle.run_facts.specs.Effects.{back_in}
use Rattle.run_facts.specs.StepKinds.{Change, Opened, Closed, changed}
use Rattle.run_facts.proofs.StepKinds as kinds
use Rattle.run_facts.proofs.StepKinds.{kept_run}

module _ (p : Executable) (P : State → Type 0) where
  pub record IsKept : Type 0 where
    pub opened : (types : Types) (x : ℕ) (s : State) → P s → P (variable_opened types x s)
    pub closed : (xs : List ℕ) (s : State) → P s → P (all_closed xs s)
    pub after_act : (i : ℕ) (v : Made) (s : State) → P s → P (after i v s)
    pub fresh_too : (s : State) → P s → P (fresh p s)
    pub parameter : (x : ℕ) (s : State) (v : Value) → P s → P (parameter_begun p x s v)
    pub resumed_too : (g : ℕ) (frame : ℕ → Option ℕ) (returned : Option Value) (s : State) → P s → P (resumed p g frame returned s)

  module _ (k : IsKept) where
    abbrev NothingMore : Point → Type 0
    NothingMore x = Unit {0}

    abbrev HoldsThere : Point → Type 0
    HoldsThere x = P x.state

    changed_kept : (c : Change) (types : Types) (s : State) → P s → P (changed c types s)
    changed_kept (Opened x) types s h = k.opened types x s h
    changed_kept (Closed xs) types s h = k.closed xs s h

    passed_kept : (xs : List ℕ) (vs : List Value) (s c : State) → P s → passed p xs vs s ≡ Some c → P c
    passed_kept [] [] s c h e = subst P (same_Some s c e) h
    passed_kept [] (v ∷ vs) s c h e = none_there e
    passed_kept (x ∷ xs) [] s c h e = none_there e
    passed_kept (x ∷ xs) (v ∷ vs) s c h e =
        let t = then_there (λ (w : Value). passed p xs vs (parameter_begun p x s w)) (as_type (p.typing.variable x) v) c e in
        passed_kept xs vs (parameter_begun p x s t.value) c (k.parameter x s t.value h) t.same

    pub called_kept : (f g : ℕ) (args : List Expr) (s c : State) → P s → called p f g args s ≡ Some c → P c
    called_kept f g args s c h e =
        let r = then_there (passed_to p f args s) _ c e in
        let vs = then_there (λ (us : List Value). passed p r.value.params us (fresh p s)) (eval_all (types_in p f) args s) c r.same in
        passed_kept r.value.params vs.value (fresh p s) c (k.fresh_too s h) vs.same

    back_kept : (g : ℕ) (w : Waiting) (s : State) → P s → P (back_in p g w s)
    back_kept g w s h = k.resumed_too g w.frame w.returned s h

    state_kept : kinds.IsKept p NothingMore HoldsThere
    state_kept = record {
      moves = λ x c more h. changed_kept c.change (types_in p x.function) x.state h;
      acts = λ x c more h. k.after_act c.statement c.value x.state h;
      begins = λ x c more h. called_kept x.function c.function c.args x.state c.begun h c.called_is;
      returns = λ x c more h. back_kept x.function c.caller x.state h;
      stores_result = λ x c more h. k.after_act c.caller.call c.value (back_in p x.function c.caller x.state) (back_kept x.function c.caller x.state h);
    }

    -- where it holds when a run begins, it holds at each point
    pub run_kept : (input : List ℕ) (x : Point) → P (opening p input) → Reaches (machine p) (beginning p input) x → P x.state
    run_kept input x h r = kept_run p NothingMore HoldsThere state_kept (beginning p input) (λ y before. tt) x r h
