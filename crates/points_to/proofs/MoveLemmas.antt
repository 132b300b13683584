-- The statements that may store a pointer are those of the program, and the pointings of all others point nowhere.
use Rattle.std.proofs.Common.{◌≡◌, ℕ, zero, suc, ◌+◌, ◌<◌, ◌⊎◌, List, [], ◌∷◌, ◌++◌, map, append-nil, append_assoc, Bool, true, false, ◌||◌, inl, inr, Option, Some, None, refl, sym, ap, ◌∙◌, subst, arith}
use Rattle.std.specs.Prelude.{Contains, slice_get, if◌then◌else◌}
use Rattle.std.specs.List.{list_any}
use Rattle.std.proofs.lemmas.Bool.{cases_Bool, cases_lt, false≢true}
use Rattle.std.proofs.lemmas.Option.{same_Some}
use Rattle.rule_closure.proofs.ListLemmas.{contains_none, contains_cases}
use Rattle.c_tree.specs.declared.expr.Expr.{Expr}
use Rattle.c_tree.specs.declared.program.Init.TheVariants as init
use Rattle.c_tree.specs.declared.program.Program.{Program}
use Rattle.c_language.specs.Code.{Begins, Sets, Bumps, Fetches, Writes, Prints, Allocates, Frees, Returns, Tests}
use Rattle.dep_model.specs.declared.location.Location.{Location}
use Rattle.dep_model.specs.Denoted.{Places, TargetsOf, expr_points}
use Rattle.c_language.proofs.Turns.{IsEach}
use Rattle.c_tree.specs.declared.statement.Arm.{Arm}
use Rattle.dep_model.specs.Doings.{Doing, Does, Calls, doings, body_doings, doings_of}
use Rattle.dep_model.specs.MayPoint.{Pointing, pointing, listed, doing_pointings, IsPointing, of_statement}
use Rattle.dep_model.proofs.Membership.{IsIn, in_of_contains, contains_of_in, in_first, in_second, in_either}
use Rattle.effect_rows.specs.Own.{own_doing}
use Rattle.mod_ref.specs.Own.{one_of, arms_doings}
use Rattle.points_to.specs.declared.moves.Move.{Move}
use Rattle.points_to.specs.Moves.{is_pointer_value, stores_pointer, may_store, Told, told, storing, storing_below, IsMove, PointsNowhere, AreMoves}
use Rattle.points_to.specs.Rounds.{gives, AreOfProgram}
use Rattle.points_to.specs.Sweeps.{given_by}
use Rattle.points_to.proofs.PointerTypes.{pointers_alone_point}
use Rattle.points_to.proofs.ValueLemmas.{alone_gives}

abbrev a_told : ℕ → Doing → Told
a_told f d = record { function = f; does = Some d }

-- ---- lists of them

-- what is kept with its test, or left out
abbrev kept : Bool → Told → List Told → List Told
kept b x xs = if b then x ∷ xs else xs

pub storing_append : (p : Program) (f : ℕ) (ds es : List Doing) → storing p f (ds ++ es) ≡ storing p f ds ++ storing p f es
storing_append p f [] es = refl
storing_append p f (d ∷ ds) es = ap (kept (stores_pointer p d) (a_told f d)) (storing_append p f ds es) ∙ keeps (stores_pointer p d)
  where
    keeps : (b : Bool) → kept b (a_told f d) (storing p f ds ++ storing p f es) ≡ kept b (a_told f d) (storing p f ds) ++ storing p f es
    keeps true = refl
    keeps false = refl

-- the statements of a list, and of arms, one after another
pub each_statement : (p : Program) (f : ℕ) → IsEach (λ x. storing p f (doings x)) (λ xs. storing p f (body_doings xs))
each_statement p f = record { at_nothing = refl; at_more = λ x xs. storing_append p f (doings x) (body_doings xs) }

pub each_arm : (p : Program) (f : ℕ) → IsEach (λ (a : Arm). storing p f (body_doings a.body)) (λ as_. storing p f (arms_doings as_))
each_arm p f = record { at_nothing = refl; at_more = λ a as_. storing_append p f (body_doings a.body) (arms_doings as_) }

-- lists that gain one part of some statements after another
pub told_two : (p : Program) (f : ℕ) (ds es all : List Doing) (old mid new : List Told) → all ≡ ds ++ es → mid ≡ old ++ storing p f ds → new ≡ mid ++ storing p f es → new ≡ old ++ storing p f all
told_two p f ds es all old mid new is one two =
    two ∙ ap (λ xs. xs ++ storing p f es) one ∙ append_assoc old (storing p f ds) (storing p f es) ∙ ap (λ xs. old ++ xs) (sym (storing_append p f ds es) ∙ ap (storing p f) (sym is))

pub told_one : (p : Program) (f : ℕ) (ds all : List Doing) (old new : List Told) → all ≡ ds → new ≡ old ++ storing p f ds → new ≡ old ++ storing p f all
told_one p f ds all old new is one = one ∙ ap (λ xs. old ++ storing p f xs) (sym is)

-- a statement that is appended, or isn't
pub told_pushed : (p : Program) (f : ℕ) (o : Option Doing) (old new : List Told) → may_store p o ≡ true → new ≡ old ++ record { function = f; does = o } ∷ [] → new ≡ old ++ storing p f (one_of o)
told_pushed p f None old new stores is = absurd (false≢true stores)
told_pushed p f (Some d) old new stores is = is ∙ ap (λ b. old ++ kept b (a_told f d) []) (sym stores)

pub told_left : (p : Program) (f : ℕ) (o : Option Doing) (old : List Told) → may_store p o ≡ false → old ≡ old ++ storing p f (one_of o)
told_left p f None old none = sym (append-nil old)
told_left p f (Some d) old none = sym (append-nil old) ∙ ap (λ b. old ++ kept b (a_told f d) []) (sym none)

record IsStored (p : Program) (f : ℕ) (ds : List Doing) (x : Told) : Type 0 where
  doing : Doing
  member : IsIn ds doing
  is : a_told f doing ≡ x

later_stored : (p : Program) (f : ℕ) (d : Doing) (ds : List Doing) (x : Told) → IsStored p f ds x → IsStored p f (d ∷ ds) x
later_stored p f d ds x w = record { doing = w.doing; member = inr w.member; is = w.is }

stored_or : (p : Program) (f : ℕ) (d : Doing) (ds : List Doing) (x : Told) → (IsIn (storing p f ds) x → IsStored p f ds x) → (b : Bool) → IsIn (kept b (a_told f d) (storing p f ds)) x → IsStored p f (d ∷ ds) x
stored_or p f d ds x rest true (inl same) = record { doing = d; member = inl refl; is = same }
stored_or p f d ds x rest true (inr k) = later_stored p f d ds x (rest k)
stored_or p f d ds x rest false k = later_stored p f d ds x (rest k)

stored_in : (p : Program) (f : ℕ) (ds : List Doing) (x : Told) → IsIn (storing p f ds) x → IsStored p f ds x
stored_in p f [] x h = absurd h
stored_in p f (d ∷ ds) x h = stored_or p f d ds x (stored_in p f ds x) (stores_pointer p d) h

in_kept : (b : Bool) (x y : Told) (xs : List Told) → IsIn xs x → IsIn (kept b y xs) x
in_kept true x y xs h = inr h
in_kept false x y xs h = h

in_stored : (p : Program) (f : ℕ) (ds : List Doing) (d : Doing) → IsIn ds d → stores_pointer p d ≡ true → IsIn (storing p f ds) (a_told f d)
in_stored p f [] d h stores = absurd h
in_stored p f (e ∷ ds) d (inl same) stores =
    subst (λ b. IsIn (kept b (a_told f e) (storing p f ds)) (a_told f d)) (sym (ap (stores_pointer p) same ∙ stores)) (inl (ap (a_told f) same))
in_stored p f (e ∷ ds) d (inr h) stores = in_kept (stores_pointer p e) (a_told f d) (a_told f e) (storing p f ds) (in_stored p f ds d h stores)

record IsStoredBelow (p : Program) (x : Told) : Type 0 where
  doing : Doing
  member : IsIn (doings_of p x.function) doing
  does : x.does ≡ Some doing

below_stored : (p : Program) (n : ℕ) (x : Told) → IsIn (storing_below p n) x → IsStoredBelow p x
below_stored p zero x h = absurd h
below_stored p (suc n) x h = elim (in_either (storing_below p n) (storing p n (doings_of p n)) x h) [
  | inl early ↦ below_stored p n x early
  | inr late ↦
      let w = stored_in p n (doings_of p n) x late in
      record {
        doing = w.doing;
        member = subst (λ (y : Told). IsIn (doings_of p y.function) w.doing) w.is w.member;
        does = sym (ap (λ (y : Told). y.does) w.is);
      }
]

stored_below : (p : Program) (n f : ℕ) (d : Doing) → f < n → IsIn (doings_of p f) d → stores_pointer p d ≡ true → IsIn (storing_below p n) (a_told f d)
stored_below p zero f d low h stores = absurd (omega (arith, low))
stored_below p (suc n) f d low h stores = elim (cases_lt f n) [
  | inl less ↦ in_first (storing_below p n) (storing p n (doings_of p n)) (a_told f d) (stored_below p n f d less h stores)
  | inr over ↦
      let same : f ≡ n = omega (arith, low, over) in
      in_second (storing_below p n) (storing p n (doings_of p n)) (a_told f d) (subst (λ g. IsIn (storing p g (doings_of p g)) (a_told f d)) same (in_stored p f (doings_of p f) d h stores))
]

-- ---- places in the list

record IsToldAt (moves : List Move) (x : Told) : Type 0 where
  place : ℕ
  move : Move
  at : slice_get moves place ≡ Some move
  is : told move ≡ x

told_at : (moves : List Move) (x : Told) → IsIn (map told moves) x → IsToldAt moves x
told_at [] x h = absurd h
told_at (m ∷ moves) x (inl same) = record { place = 0; move = m; at = refl; is = same }
told_at (m ∷ moves) x (inr h) = let w = told_at moves x h in record { place = suc w.place; move = w.move; at = w.at; is = w.is }

told_in : (moves : List Move) (k : ℕ) (m : Move) → slice_get moves k ≡ Some m → IsIn (map told moves) (told m)
told_in [] k m at = cc
told_in (x ∷ moves) zero m at = inl (ap told (same_Some x m at))
told_in (x ∷ moves) (suc k) m at = inr (told_in moves k m at)

-- ---- what is left out points nowhere

none_of : (a b : Bool) → (a || b) ≡ false → (a ≡ false) × (b ≡ false)
none_of false false h = (refl, refl)
none_of false true h = absurd (false≢true (sym h))
none_of true b h = absurd (false≢true (sym h))

module _ (p : Program) (points : TargetsOf) where
  nowhere_value : (e : Expr) → is_pointer_value p e ≡ false → (m : Location) → expr_points p points e m ≡ true → ⊥
  nowhere_value e none m h = false≢true (sym none ∙ pointers_alone_point p points e m h)

  nowhere_one : (into : Places) (e : Expr) (a : Pointing) → is_pointer_value p e ≡ false → Contains (pointing into (expr_points p points e) ∷ []) a → (m : Location) → a.from m ≡ true → ⊥
  nowhere_one into e a none c m h = elim (contains_cases (pointing into (expr_points p points e)) [] a c) [
    | inl same ↦ nowhere_value e none m (subst (λ (b : Pointing). b.from m ≡ true) (sym same) h)
    | inr later ↦ absurd (contains_none a later)
  ]

  nowhere_listed : (x : ℕ) (es : List Expr) (a : Pointing) → list_any (is_pointer_value p) es ≡ false → Contains (listed p points x es) a → (m : Location) → a.from m ≡ true → ⊥
  nowhere_listed x [] a none c m h = contains_none a c
  nowhere_listed x (e ∷ es) a none c m h =
      let w = none_of (is_pointer_value p e) (list_any (is_pointer_value p) es) none in
      elim (contains_cases _ (listed p points x es) a c) [
        | inl same ↦ nowhere_value e w.0 m (subst (λ (b : Pointing). b.from m ≡ true) (sym same) h)
        | inr later ↦ nowhere_listed x es a w.1 later m h
      ]

nowhere_doing : (p : Program) (f : ℕ) (d : Doing) → stores_pointer p d ≡ false → PointsNowhere p f d
nowhere_doing p f (Does i (Begins x init.None)) none points a c m h = contains_none a c
nowhere_doing p f (Does i (Begins x (init.One e))) none points a c m h = nowhere_one p points _ e a none c m h
nowhere_doing p f (Does i (Begins x (init.Items es))) none points a c m h = nowhere_listed p points x es a none c m h
nowhere_doing p f (Does i (Sets left op right)) none points a c m h = nowhere_one p points _ right a none c m h
nowhere_doing p f (Does i (Bumps left up)) none points a c m h = contains_none a c
nowhere_doing p f (Does i (Fetches to)) none points a c m h = contains_none a c
nowhere_doing p f (Does i (Writes e)) none points a c m h = contains_none a c
nowhere_doing p f (Does i (Prints format args)) none points a c m h = contains_none a c
nowhere_doing p f (Does i (Allocates to n)) none points a c m h = absurd (false≢true (sym none))
nowhere_doing p f (Does i (Frees e)) none points a c m h = contains_none a c
nowhere_doing p f (Does i (Returns None)) none points a c m h = contains_none a c
nowhere_doing p f (Does i (Returns (Some e))) none points a c m h = nowhere_one p points _ e a none c m h
nowhere_doing p f (Does i (Tests e)) none points a c m h = contains_none a c
nowhere_doing p f (Calls i to g args) none points a c m h = absurd (false≢true (sym none))

-- ---- the list is that of the program

pub are_moves : (p : Program) (moves : List Move) (n : ℕ) → map told moves ≡ storing_below p n → ((f : ℕ) (d : Doing) → Contains (doings_of p f) d → f < n) → AreMoves p moves
are_moves p moves n is inside = record { only = only; whole = whole }
  where
    only : (k : ℕ) (m : Move) (d : Doing) → slice_get moves k ≡ Some m → own_doing m.statement.now ≡ Some d → Contains (doings_of p m.function) d
    only k m d at does =
        let w = below_stored p n (told m) (subst (λ xs. IsIn xs (told m)) is (told_in moves k m at)) in
        contains_of_in (doings_of p m.function) d (subst (IsIn (doings_of p m.function)) (same_Some w.doing d (sym w.does ∙ does)) w.member)

    whole : (f : ℕ) (d : Doing) → Contains (doings_of p f) d → IsMove moves f d ⊎ PointsNowhere p f d
    whole f d c = elim (cases_Bool (stores_pointer p d)) [
      | inl stores ↦
          let w = told_at moves (a_told f d) (subst (λ xs. IsIn xs (a_told f d)) (sym is) (stored_below p n f d (inside f d c) (in_of_contains (doings_of p f) d c) stores)) in
          inl (record { place = w.place; move = w.move; at = w.at; in_function = ap (λ (x : Told). x.function) w.is; does = ap (λ (x : Told). x.does) w.is })
      | inr none ↦ inr (nowhere_doing p f d none)
    ]

-- so their pointings are the program's
pub of_program : (p : Program) (moves : List Move) → AreMoves p moves → AreOfProgram p moves
of_program p moves are k m at points a c = by_doing (own_doing m.statement.now) refl c
  where
    by_doing : (o : Option Doing) → own_doing m.statement.now ≡ o → Contains (given_by p m.function (one_of o) points) a → IsPointing p points a
    by_doing None is k = absurd (contains_none a k)
    by_doing (Some d) is h =
        of_statement m.function (record { doing = d; member = are.only k m d at is; given = subst (λ as_. Contains as_ a) (alone_gives p m.function d points) h })

-- what a statement of the list does is among what it gives
pub move_gives : (p : Program) (moves : List Move) (f : ℕ) (d : Doing) (points : TargetsOf) (a : Pointing) (w : IsMove moves f d) → Contains (doing_pointings p points f d) a → Contains (gives p w.move points) a
move_gives p moves f d points a w c =
    subst (λ g. Contains (given_by p g (one_of (own_doing w.move.statement.now)) points) a) (sym w.in_function)
    (subst (λ o. Contains (given_by p f (one_of o) points) a) (sym w.does) (subst (λ as_. Contains as_ a) (sym (alone_gives p f d points)) c))
