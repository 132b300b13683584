-- Each variable that begins in a run is one of the program's.
use Rattle.std.proofs.Common.{◌≡◌, ℕ, ◌<◌, List, [], ◌∷◌, length, Option, Some, None, true, refl, sym, subst}
use Rattle.std.specs.Prelude.{option_map, is_some, slice_get}
use Rattle.std.specs.List.{list_all}
use Rattle.std.specs.Option.{option_map_or}
use Rattle.std.proofs.lemmas.Bool.{false≢true, and_parts}
use Rattle.std.proofs.lemmas.Option.{slice_get-map}
use Rattle.c_tree.specs.declared.program.Function.{Function}
use Rattle.c_tree.specs.declared.program.Program.{Program}
use Rattle.c_language.specs.Code.{Code, End, Opens}
use Rattle.c_language.specs.declared.expr_type.ExprType.{ExprType}
use Rattle.c_meaning.specs.Activations.{Routine, Executable, routine_of, executable, code_at}
use Rattle.c_meaning.specs.Steps.{Reaches, Waiting, Point, machine, beginning}
use Rattle.dep_model.specs.Doings.{Doing, body_doings}
use Rattle.run_facts.proofs.CodeDoings.{Did, AreMet, Every, every_next, every_code}
use Rattle.run_facts.proofs.StepKinds.{IsKept, kept_run}
use Rattle.run_facts.proofs.TypedParts.{variable_below}
use Rattle.typed_programs.specs.Needs.{Need, Picks, Starts, body_needs}
use Rattle.typed_programs.specs.TreeOperands.{Declarations, declarations, variable_shape}
use Rattle.typed_programs.specs.TypedStatements.{need_fits, function_needs, IsTyped}
use Rattle.typed_programs.proofs.TypedUses.{all_at}

-- whatever is done
abbrev AnyDoing : Doing → Type 0
AnyDoing a = Unit {0}

all_done : (as_ : List Doing) → Did AnyDoing as_
all_done [] = tt
all_done (a ∷ as_) = (tt, all_done as_)

module _ (p : Program) where
  abbrev d : Declarations
  d = declarations p

  abbrev e : Executable
  e = executable p

  abbrev IsOwn : ℕ → Type 0
  IsOwn x = x < length p.vars

  -- variables that begin are the program's in a list
  abbrev pub BeginsOwn : Code → Type 0
  BeginsOwn = Every AnyDoing IsOwn

  needs_met : (ns : List Need) → list_all (need_fits d) ns ≡ true → AreMet IsOwn ns
  needs_met [] h = tt
  needs_met (Picks a ∷ ns) h = (tt, needs_met ns (and_parts (need_fits d (Picks a)) (list_all (need_fits d) ns) h).1)
  needs_met (Starts x ∷ ns) h =
      let k = and_parts (is_some (variable_shape d x)) (list_all (need_fits d) ns) h in
      (by_shape (variable_shape d x) refl k.0, needs_met ns k.1)
    where
      by_shape : (o : Option ExprType) → variable_shape d x ≡ o → is_some o ≡ true → IsOwn x
      by_shape None is h = absurd (false≢true h)
      by_shape (Some t) is h = variable_below p x t is

  module _ (typed : IsTyped p) where
    abbrev code_in : Option Routine → Code
    code_in o = option_map_or (λ (r : Routine). r.code) o End

    body_own : (f : ℕ) (o : Option Function) → slice_get p.functions f ≡ o → BeginsOwn (code_in (option_map routine_of o))
    body_own f None is = tt
    body_own f (Some g) is =
        every_code AnyDoing IsOwn g.body (all_done (body_doings g.body)) (needs_met (body_needs g.body) (all_at (function_needs d) p.functions f g typed.needs is))

    pub bodies_own : (f : ℕ) → BeginsOwn (code_at e f)
    bodies_own f = subst (λ o. BeginsOwn (code_in o)) (sym (slice_get-map routine_of p.functions f)) (body_own f (slice_get p.functions f) refl)

    -- ---- runs

    abbrev AllOwn : List Waiting → Type 0
    AllOwn [] = Unit {0}
    AllOwn (w ∷ ws) = BeginsOwn w.rest × AllOwn ws

    record IsOwnPoint (x : Point) : Type 0 where
      inside : BeginsOwn x.rest
      callers : AllOwn x.callers

    abbrev NothingMore : Point → Type 0
    NothingMore x = Unit {0}

    own_kept : IsKept e NothingMore IsOwnPoint
    own_kept = record {
      moves = λ x k more h. record { inside = every_next AnyDoing IsOwn x.rest _ k.next_is h.inside; callers = h.callers };
      acts = λ x k more h. record { inside = (every_next AnyDoing IsOwn x.rest _ k.next_is h.inside).1 k.value; callers = h.callers };
      begins = λ x k more h. record { inside = bodies_own k.function; callers = ((every_next AnyDoing IsOwn x.rest _ k.next_is h.inside).1, h.callers) };
      returns = λ x k more h. let ws = subst AllOwn k.callers_are h.callers in record { inside = ws.0; callers = ws.1 };
      stores_result = λ x k more h. let ws = subst AllOwn k.callers_are h.callers in record { inside = ws.0; callers = ws.1 };
    }

    -- a variable that begins next is one of the program's
    pub opened_below : (input : List ℕ) (x : Point) → Reaches (machine e) (beginning e input) x → (v : ℕ) (r : Code) → x.rest ≡ Opens v r → v < length p.vars
    opened_below input x reach v r is =
        let h = kept_run e NothingMore IsOwnPoint own_kept (beginning e input) (λ y before. tt) x reach (record { inside = bodies_own e.main; callers = tt }) in
        (subst BeginsOwn is h.inside).0
