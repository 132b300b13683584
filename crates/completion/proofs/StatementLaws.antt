-- The rows of a program's statements, form by form, and the first statement of a function in a row.
use Rattle.std.proofs.Common.{◌≡◌, ◌≢◌, ℕ, zero, suc, ◌+◌, ◌<◌, List, [], ◌∷◌, ◌++◌, map, Bool, true, false, ◌||◌, Option, Some, None, append_assoc, arith, inl, inr, refl, sym, ap, ◌∙◌, subst, Vec, Global}
use Rattle.std.specs.Prelude.{◌==◌, if◌then◌else◌, slice_get}
use Rattle.std.specs.List.{find}
use Rattle.std.specs.Option.{option_and_then, option_map_or, option_or, option_to_list}
use Rattle.std.proofs.lemmas.Bool.{cases_Bool}
use Rattle.std.proofs.lemmas.Bool.Decides.{nat_tests}
use Rattle.std.proofs.lemmas.Grind.{flat_map-append}
use Rattle.std.proofs.lemmas.List.Folds.{find-append}
use Rattle.c_tree.specs.declared.program.Function.{Function}
use Rattle.c_tree.specs.declared.program.Program.{Program}
use Rattle.c_tree.specs.declared.statement.Arm.{Arm, fold-roll-Arm}
use Rattle.c_tree.specs.declared.statement.Statement.{Statement, out-Statement, map-Statement, fold-roll-Statement}
use Rattle.c_tree.specs.declared.statement.Statement.TheViews.{roll-out-Statement, out-roll-Statement}
use Rattle.c_tree.specs.declared.statement.Statement.TheOpen.{Statement-F}
use Rattle.c_tree.specs.declared.statement.Amount.{Amount}
use Rattle.c_tree.specs.declared.statement.Target.{Target}
use Rattle.c_tree.specs.declared.types.CType.{CType}
use Rattle.c_tree.specs.declared.statement.Statement.TheVariants as s
use Rattle.c_language.specs.Code.{Tests}
use Rattle.c_language.specs.Names.{target_names, amount_names}
use Rattle.dep_model.specs.NamedParameters.{statement_names}
use Rattle.dep_model.specs.Doings.{Doing, Does, joined, doing_step, doing_arm, doings, body_doings}
use Rattle.dep_model.specs.VertexOrder.{has_number, doing_at}
use Rattle.dep_model.proofs.DoingForms.{arm_doings}
use Rattle.completion.specs.declared.statements.Owned.{Owned}
use Rattle.completion.specs.Numbered.{layer_doing, own_doing, Stated, stated_at, if_number, with_number, functions_with, is_of, first_of, own_doings, arms_doings, layer_inner, inner_doings, Gains}

-- ---- rows that gain, one part after another
with_joined : (f i : ℕ) (a b : List Doing) → with_number f i (a ++ b) ≡ with_number f i a ++ with_number f i b
with_joined f i a b = flat_map-append (if_number f i) a b

pub gains_both : (f : ℕ) (old mid new : List (Vec Owned Global)) (a b c : List Doing) → Gains f old mid a → Gains f mid new b → c ≡ a ++ b → Gains f old new c
gains_both f old mid new a b c first second e i =
    second i ∙ ap (λ ss. ss ++ with_number f i b) (first i) ∙ append_assoc (stated_at old i) (with_number f i a) (with_number f i b) ∙ ap (λ ss. stated_at old i ++ ss) (sym (with_joined f i a b) ∙ ap (λ ds. with_number f i ds) (sym e))

-- ---- a statement, and those inside it
all-doings : (b : List Statement) → joined (map doings b) ≡ body_doings b
all-doings [] = refl
all-doings (x ∷ b) = ap (λ ds. doings x ++ ds) (all-doings b)

all-arms : (b : List Arm) → joined (map arm_doings b) ≡ arms_doings b
all-arms [] = refl
all-arms (a ∷ b) = ap (λ ds. ds ++ joined (map arm_doings b)) (arm-doings a) ∙ ap (λ ds. body_doings a.body ++ ds) (all-arms b)
  where
    arm-doings : (a : Arm) → arm_doings a ≡ body_doings a.body
    arm-doings a = fold-roll-Arm (List Doing) (List Doing) doing_step doing_arm (record { labels = a.labels; body = a.body }) ∙ all-doings a.body

layer_whole : (l : Statement-F Statement Arm) → doing_step (map-Statement Statement Arm (List Doing) (List Doing) doings arm_doings l) ≡ option_to_list (layer_doing l) ++ layer_inner l
layer_whole (Statement-F.Declare None l x init) = refl
layer_whole (Statement-F.Declare (Some id) l x init) = refl
layer_whole (Statement-F.Assign id l left op right) = refl
layer_whole (Statement-F.Bump id l a up before) = refl
layer_whole (Statement-F.Invoke id l to f args) = refl
layer_whole (Statement-F.Fetch id l to) = refl
layer_whole (Statement-F.Write id l e) = refl
layer_whole (Statement-F.Print id l format args) = refl
layer_whole (Statement-F.Heap id l to cast n) = refl
layer_whole (Statement-F.Release id l e) = refl
layer_whole (Statement-F.If id l e a b) = ap (λ ds. Does id (Tests e) ∷ (ds ++ joined (map doings b))) (all-doings a) ∙ ap (λ ds. Does id (Tests e) ∷ (body_doings a ++ ds)) (all-doings b)
layer_whole (Statement-F.While id l e b) = ap (λ ds. Does id (Tests e) ∷ ds) (all-doings b)
layer_whole (Statement-F.Do id l e b) = ap (λ ds. Does id (Tests e) ∷ ds) (all-doings b)
layer_whole (Statement-F.For id l None e None b) = ap (λ ds. Does id (Tests e) ∷ ([] ++ ([] ++ ds))) (all-doings b)
layer_whole (Statement-F.For id l None e (Some k) b) = ap (λ ds. Does id (Tests e) ∷ ([] ++ (doings k ++ ds))) (all-doings b)
layer_whole (Statement-F.For id l (Some i) e None b) = ap (λ ds. Does id (Tests e) ∷ (doings i ++ ([] ++ ds))) (all-doings b)
layer_whole (Statement-F.For id l (Some i) e (Some k) b) = ap (λ ds. Does id (Tests e) ∷ (doings i ++ (doings k ++ ds))) (all-doings b)
layer_whole (Statement-F.Switch id l e arms) = ap (λ ds. Does id (Tests e) ∷ ds) (all-arms arms)
layer_whole (Statement-F.Block l b) = all-doings b
layer_whole (Statement-F.Return id l e) = refl

pub whole : (s : Statement) → doings s ≡ own_doings s ++ inner_doings s
whole s =
    ap doings (sym (roll-out-Statement s)) ∙ fold-roll-Statement (List Doing) (List Doing) doing_step doing_arm (out-Statement s) ∙ layer_whole (out-Statement s)

-- ---- the first statement of a function
same_test : (a b : ℕ) → a ≢ b → (a == b) ≡ false
same_test a b h = grind (arith, nat_tests)

number_same : (a : ℕ) → (a == a) ≡ true
number_same a = grind (arith, nat_tests)

find_first : {X : Type 0} (test : X → Bool) (x : X) (xs : List X) → test x ≡ true → find test (x ∷ xs) ≡ Some x
find_first test x xs h = grind (arith, h)

find_later : {X : Type 0} (test : X → Bool) (x : X) (xs : List X) → test x ≡ false → find test (x ∷ xs) ≡ find test xs
find_later test x xs h = grind (arith, h)

none_other : (f k i : ℕ) (ds : List Doing) → k ≢ f → find (is_of f) (with_number k i ds) ≡ None
none_other f k i [] other = refl
none_other f k i (d ∷ ds) other = elim (cases_Bool (has_number i d)) [
  | inl t ↦ ap (λ b. find (is_of f) ((if b then (let z : Stated = record { function = k; doing = Some d } in z) ∷ [] else []) ++ with_number k i ds)) t ∙ find_later (is_of f) _ (with_number k i ds) (same_test k f other) ∙ none_other f k i ds other
  | inr n ↦ ap (λ b. find (is_of f) ((if b then (let z : Stated = record { function = k; doing = Some d } in z) ∷ [] else []) ++ with_number k i ds)) n ∙ none_other f k i ds other
]

first_here : (k i : ℕ) (ds : List Doing) → option_and_then (λ (s : Stated). s.doing) (find (is_of k) (with_number k i ds)) ≡ find (has_number i) ds
first_here k i [] = refl
first_here k i (d ∷ ds) = elim (cases_Bool (has_number i d)) [
  | inl t ↦
      ap (λ b. option_and_then (λ (s : Stated). s.doing) (find (is_of k) ((if b then (let z : Stated = record { function = k; doing = Some d } in z) ∷ [] else []) ++ with_number k i ds))) t
      ∙ ap (λ o. option_and_then (λ (s : Stated). s.doing) o) (find_first (is_of k) _ (with_number k i ds) (number_same k)) ∙ sym (find_first (has_number i) d ds t)
  | inr n ↦
      ap (λ b. option_and_then (λ (s : Stated). s.doing) (find (is_of k) ((if b then (let z : Stated = record { function = k; doing = Some d } in z) ∷ [] else []) ++ with_number k i ds))) n
      ∙ first_here k i ds ∙ sym (find_later (has_number i) d ds n)
]

none_later : (f k i : ℕ) (gs : List Function) → f < k → find (is_of f) (functions_with k i gs) ≡ None
none_later f k i [] low = refl
none_later f k i (g ∷ gs) low =
    find-append (is_of f) (with_number k i (body_doings g.body)) (functions_with (suc k) i gs) ∙ ap (λ o. option_or o (find (is_of f) (functions_with (suc k) i gs))) (none_other f k i (body_doings g.body) (λ e. omega (arith, low, e))) ∙ none_later f (suc k) i gs (omega (arith, low))

or_none : {X : Type 0} (o : Option X) → option_or o None ≡ o
or_none None = refl
or_none (Some x) = refl

first_from : (k f i : ℕ) (gs : List Function) → first_of (k + f) (functions_with k i gs) ≡ find (has_number i) (option_map_or (λ (g : Function). body_doings g.body) (slice_get gs f) [])
first_from k f i [] = refl
first_from k zero i (g ∷ gs) =
    let same : k + 0 ≡ k = omega arith in
    let ds = body_doings g.body in
    ap (λ n. first_of n (functions_with k i (g ∷ gs))) same ∙ ap (λ o. option_and_then (λ (s : Stated). s.doing) o) (find-append (is_of k) (with_number k i ds) (functions_with (suc k) i gs) ∙ ap (λ o. option_or (find (is_of k) (with_number k i ds)) o) (none_later k (suc k) i gs (omega arith)) ∙ or_none (find (is_of k) (with_number k i ds))) ∙ first_here k i ds
first_from k (suc f) i (g ∷ gs) =
    let next : k + suc f ≡ suc k + f = omega arith in
    let ds = body_doings g.body in
    ap (λ n. first_of n (functions_with k i (g ∷ gs))) next ∙ ap (λ o. option_and_then (λ (s : Stated). s.doing) o) (find-append (is_of (suc k + f)) (with_number k i ds) (functions_with (suc k) i gs) ∙ ap (λ o. option_or o (find (is_of (suc k + f)) (functions_with (suc k) i gs))) (none_other (suc k + f) k i ds (λ e. omega (arith, e)))) ∙ first_from (suc k) f i gs

pub first_is : (p : Program) (f i : ℕ) → first_of f (functions_with 0 i p.functions) ≡ doing_at p f i
first_is p f i = let same : 0 + f ≡ f = omega arith in subst (λ n. first_of n (functions_with 0 i p.functions) ≡ doing_at p f i) same (first_from 0 f i p.functions)

-- ---- what an allocation names
pub heap_names : (id l : ℕ) (to : Target) (cast : Option CType) (n : Amount) (x : ℕ) → statement_names (own_doing (s.Heap id l to cast n)) x ≡ (target_names to x || amount_names n x)
heap_names id l to cast n x =
    ap (λ t. statement_names (layer_doing (out-Statement t)) x) (sym (s.rolls-Heap id l to cast n)) ∙ ap (λ y. statement_names (layer_doing y) x) (out-roll-Statement (Statement-F.Heap id l to cast n))
