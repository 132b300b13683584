-- States as the code has them: variables that begin and end, and what an act changes.
use Rattle.std.proofs.Common.{◌≡◌, ℕ, zero, suc, ◌+◌, ◌<◌, ◌≤◌, List, [], ◌∷◌, ◌++◌, length, take, get_or, append_assoc, append-nil, set, Bool, true, false, Option, Some, None, refl, sym, ap, ap₂, ◌∙◌, arith}
use Rattle.std.proofs.lemmas.List.{take_more, map-append}
use Rattle.std.proofs.lemmas.Bool.Decides.{nat_tests}
use mathlib.Core.Path.{fun_ext}
use Rattle.std.specs.Prelude.{◌==◌, drop, if◌then◌else◌}
use Rattle.std.specs.Option.{option_or, option_to_list}
use Rattle.c_tree.specs.declared.program.Program.{Program}
use Rattle.c_tree.specs.declared.statement.Statement.{Statement}
use Rattle.c_language.specs.Code.{StatementPart, declared_in, part}
use Rattle.c_language.specs.TreeTypes.{type_of_variable}
use Rattle.c_language.specs.declared.expr_type.ExprType.{ExprType}
use Rattle.c_meaning.specs.declared.value.Place.{Place}
use Rattle.c_meaning.specs.declared.value.Value.{Value}
use Rattle.c_meaning.specs.Acts.{Store, Made, stored, with_begun, after}
use Rattle.c_meaning.specs.Activations.{executable, parameter_begun}
use Rattle.c_meaning.specs.Memory.{Memory, enter, write}
use Rattle.c_meaning.specs.Values.{State, whole, bound, leave_block, variable_closed, all_closed}
use Rattle.c_memory.specs.Scenes.{frame_of}
use Rattle.c_acts.specs.declared.makings.Change.{Change}
use Rattle.c_machine.specs.declared.states.State.{State as Standing}
use Rattle.c_acts.specs.Makings.{IsChange, stores_in, begun_in}
use Rattle.c_machine.specs.Rests.{parts}
use Rattle.c_machine.specs.States.{IsState, opened_in}

-- ---- tables

-- a variable that is set has no block
pub frame_unset : (os : List (Option ℕ)) (x : ℕ) → x < length os → frame_of (set os x None) ≡ bound (frame_of os) x None
frame_unset os x within = fun_ext (λ y. changed os x y within)
  where
    changed : (ps : List (Option ℕ)) (k y : ℕ) → k < length ps → frame_of (set ps k None) y ≡ bound (frame_of ps) k None y
    changed [] k y h = let no : ⊥ = omega (arith, h) in absurd no
    changed (o ∷ ps) zero zero h = refl
    changed (o ∷ ps) zero (suc y) h =
        let other : (0 == suc y) ≡ false = grind (arith, nat_tests) in
        ap (λ (is : Bool). if is then None else frame_of (o ∷ ps) (suc y)) (sym other)
    changed (o ∷ ps) (suc k) zero h =
        let other : (suc k == 0) ≡ false = grind (arith, nat_tests) in
        ap (λ (is : Bool). if is then None else frame_of (o ∷ ps) 0) (sym other)
    changed (o ∷ ps) (suc k) (suc y) h =
        let same : (k == y) ≡ (suc k == suc y) = grind (arith, nat_tests) in
        changed ps k y (omega (arith, h)) ∙ ap (λ (is : Bool). if is then None else frame_of ps y) same

-- a table without an entry of the variable has no block of it
pub frame_past : (os : List (Option ℕ)) (x : ℕ) → length os ≤ x → frame_of os x ≡ None
frame_past [] zero h = refl
frame_past [] (suc x) h = refl
frame_past (o ∷ os) zero h = let no : ⊥ = omega (arith, h) in absurd no
frame_past (o ∷ os) (suc x) h = frame_past os x (omega (arith, h))

pub bound_none : (f : ℕ → Option ℕ) (x : ℕ) → f x ≡ None → f ≡ bound f x None
bound_none f x none = fun_ext (λ y. by y (x == y) refl)
  where
    by : (y : ℕ) (b : Bool) → (x == y) ≡ b → f y ≡ (if b then None else f y)
    by y true e = let same : x ≡ y = grind (arith, nat_tests) in ap f (sym same) ∙ none
    by y false e = refl

-- ---- variables

pub opened_at : (p : Program) (x b : ℕ) (t : ExprType) (old new : Standing) (s : State) → IsState old s → t ≡ type_of_variable p x → b ≡ length old.memory.blocks
    → new.memory ≡ enter t old.memory → frame_of new.frame.items ≡ bound (frame_of old.frame.items) x (Some b) → new.returned ≡ old.returned → new.unread ≡ old.unread → IsState new (opened_in p x s)
opened_at p x b t old new s h type number gives binds returned unread =
    record {
      frame = binds ∙ ap₂ (λ (f : ℕ → Option ℕ) (k : ℕ). bound f x (Some k)) h.frame (number ∙ ap (λ (m : Memory). length m.blocks) h.memory);
      returned = returned ∙ h.returned;
      memory = gives ∙ ap₂ enter type h.memory;
      unread = ap (λ u. u.now) unread ∙ h.unread;
    }

-- a parameter begins with a value
pub begun_at : (p : Program) (x b : ℕ) (v : Value) (place : Place) (old opened new : Standing) (s : State) → IsState old s → IsState opened (opened_in p x s) → b ≡ length old.memory.blocks → place ≡ whole b
    → new.memory ≡ write place v opened.memory → new.frame ≡ opened.frame → new.returned ≡ opened.returned → new.unread ≡ opened.unread → IsState new (parameter_begun (executable p) x s v)
begun_at p x b v place old opened new s h o number here gives frame returned unread =
    record {
      frame = ap (λ f. frame_of f.items) frame ∙ o.frame;
      returned = returned ∙ o.returned;
      memory =
          gives
          ∙ ap₂ (λ (k : Place) (m : Memory). write k v m) (here ∙ ap whole (number ∙ ap (λ (m : Memory). length m.blocks) h.memory)) o.memory;
      unread = ap (λ u. u.now) unread ∙ o.unread;
    }

pub closed_at : (x : ℕ) (o : Option ℕ) (old new : Standing) (s : State) → IsState old s → frame_of old.frame.items x ≡ o
    → new.memory ≡ leave_block o old.memory → frame_of new.frame.items ≡ bound (frame_of old.frame.items) x None → new.returned ≡ old.returned → new.unread ≡ old.unread → IsState new (variable_closed x s)
closed_at x o old new s h here gives binds returned unread =
    let at_ : o ≡ s.frame x = sym here ∙ ap (λ (f : ℕ → Option ℕ). f x) h.frame in
    record {
      frame = binds ∙ ap (λ (f : ℕ → Option ℕ). bound f x None) h.frame;
      returned = returned ∙ h.returned;
      memory = gives ∙ ap₂ leave_block at_ h.memory;
      unread = ap (λ u. u.now) unread ∙ h.unread;
    }

pub closed-append : (xs ys : List ℕ) (s : State) → all_closed (xs ++ ys) s ≡ all_closed ys (all_closed xs s)
closed-append [] ys s = refl
closed-append (x ∷ xs) ys s = closed-append xs ys (variable_closed x s)

-- one variable more is gone
pub closed_turn : (xs : List ℕ) (i x : ℕ) (s : State) → take (i + 1) xs ≡ take i xs ++ x ∷ [] → all_closed (take (i + 1) xs) s ≡ variable_closed x (all_closed (take i xs) s)
closed_turn xs i x s more = ap (λ (ys : List ℕ). all_closed ys s) more ∙ closed-append (take i xs) (x ∷ []) s

declared_in-append : (xs ys : List StatementPart) → declared_in (xs ++ ys) ≡ declared_in xs ++ declared_in ys
declared_in-append [] ys = refl
declared_in-append (x ∷ xs) ys =
    ap (λ (ns : List ℕ). x.declares ++ ns) (declared_in-append xs ys) ∙ sym (append_assoc x.declares (declared_in xs) (declared_in ys))

-- what one statement more declares is gone
pub declared_turn : (ss : List Statement) (i : ℕ) (x : Statement) (o : Option ℕ) (s : State) → i < length ss → x ≡ get_or ss i x → option_to_list o ≡ (part x).declares
    → all_closed (declared_in (parts (take (i + 1) ss))) s ≡ all_closed (option_to_list o) (all_closed (declared_in (parts (take i ss))) s)
declared_turn ss i x o s within is gives =
    ap (λ (ys : List Statement). all_closed (declared_in (parts ys)) s) (take_more ss i x within ∙ ap (λ (z : Statement). take i ss ++ z ∷ []) (sym is))
    ∙ ap (λ (qs : List StatementPart). all_closed (declared_in qs) s) (map-append part (take i ss) (x ∷ []))
    ∙ ap (λ (ns : List ℕ). all_closed ns s) (declared_in-append (parts (take i ss)) (part x ∷ []))
    ∙ closed-append (declared_in (parts (take i ss))) ((part x).declares ++ []) s
    ∙ ap (λ (ns : List ℕ). all_closed ns (all_closed (declared_in (parts (take i ss))) s)) (append-nil (part x).declares ∙ sym gives)

-- ---- acts

pub applied_at : (i : ℕ) (m : Made) (c : Change) (old new : Standing) (s : State) → IsChange c m → IsState old s
    → new.memory ≡ stored (stores_in c.stores) (leave_block c.freed (with_begun (begun_in c.begun) old.memory)) → new.returned ≡ option_or c.returned old.returned
    → new.unread.now ≡ drop (if c.takes then 1 else 0) old.unread.now → new.frame ≡ old.frame → IsState new (after i m s)
applied_at i m c old new s is h memory returned unread frame =
    record {
      frame = ap (λ f. frame_of f.items) frame ∙ h.frame;
      returned = returned ∙ ap₂ option_or is.returned h.returned;
      memory =
          memory
          ∙ ap₂ (λ (ws : List Store) (n : Memory). stored ws n) is.stores
          (ap₂ leave_block is.freed (ap₂ with_begun is.begun h.memory));
      unread = unread ∙ ap₂ drop is.taken h.unread;
    }
