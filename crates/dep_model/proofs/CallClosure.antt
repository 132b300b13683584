-- The functions that are called from one, as a set; and so what each function modifies and uses, for every program.
use Rattle.std.proofs.Common.{◌≡◌, ℕ, zero, suc, ◌+◌, ◌<◌, ◌≤◌, ◌⊎◌, inl, inr, Bool, true, false, ◌&&◌, ◌||◌, List, [], ◌∷◌, length, set, replicate, slice_get, Contains, sym, ap, ◌∙◌, subst, arith, IsTrue}
use Rattle.std.specs.List.{list_any}
use Rattle.std.specs.Option.{option_map_or}
use Rattle.std.proofs.lemmas.Bool.{false≢true, cases_Bool, cases_lt, cases_eq, and_from, and_parts, or_left, or_right, or_cases}
use Rattle.std.proofs.lemmas.List.{length-set, length-replicate}
use Rattle.bit_rows.specs.Sets.{has, count_of}
use Rattle.bit_rows.proofs.SetLemmas.{has-empty}
use Rattle.rule_closure.proofs.ListLemmas.{contains_none, contains_head, contains_cons, contains_cases}
use Rattle.rule_closure.proofs.SetLemmas.{has_set, has_set_same, has_set_cases, count-set, count_room}
use Rattle.c_tree.specs.declared.expr.Expr.{Expr}
use Rattle.c_tree.specs.declared.program.Function.{Function}
use Rattle.c_tree.specs.declared.program.Program.{Program}
use Rattle.c_tree.specs.declared.statement.Target.{Target}
use Rattle.dep_model.specs.declared.location.Location.{Location}
use Rattle.dep_model.specs.Denoted.{TargetsOf}
use Rattle.dep_model.specs.Doings.{Doing, Does, Calls, body_doings, doings_of}
use Rattle.dep_model.specs.DoingEffects.{doing_uses, doing_defines}
use Rattle.dep_model.specs.ModRef.{IsCalledFrom, itself, call, is_outside, Modifies, MayUse, FunctionEffects, AreFunctionEffects}

-- ---- tests on lists, and on numbers below a bound

any_in : {A : Type 0} (test : A → Bool) (xs : List A) → list_any test xs ≡ true → (x : A) × Contains xs x × (test x ≡ true)
any_in test [] h = cc
any_in test (x ∷ xs) h = elim (or_cases (test x) (list_any test xs) h) [
  | inl here ↦ (x, contains_head x xs, here)
  | inr later ↦ let r = any_in test xs later in (r.0, contains_cons x xs r.0 r.1, r.2)
]

in_any : {A : Type 0} (test : A → Bool) (xs : List A) (x : A) → Contains xs x → test x ≡ true → list_any test xs ≡ true
in_any test [] x c h = absurd (contains_none x c)
in_any test (y ∷ xs) x c h = elim (contains_cases y xs x c) [
  | inl same ↦ or_left (test y) (list_any test xs) (ap test same ∙ h)
  | inr later ↦ or_right (test y) (list_any test xs) (in_any test xs x later h)
]

abbrev any_below : ℕ → (ℕ → Bool) → Bool
any_below zero test = false
any_below (suc n) test = test n || any_below n test

below_any : (n : ℕ) (test : ℕ → Bool) → any_below n test ≡ true → (k : ℕ) × (k < n) × (test k ≡ true)
below_any zero test h = cc
below_any (suc n) test h = elim (or_cases (test n) (any_below n test) h) [
  | inl here ↦ (n, omega arith, here)
  | inr later ↦ let r = below_any n test later in let lt = r.1 in (r.0, omega (arith, lt), r.2)
]

any_at : (n : ℕ) (test : ℕ → Bool) (k : ℕ) → k < n → test k ≡ true → any_below n test ≡ true
any_at zero test k lt h = absurd (omega (arith, lt))
any_at (suc n) test k lt h = elim (cases_eq k n) [
  | inl same ↦ or_left (test n) (any_below n test) (ap test (sym same) ∙ h)
  | inr other ↦ or_right (test n) (any_below n test) (any_at n test k (omega (arith, lt, other)) h)
]

-- ---- the functions that are called from one

module _ (p : Program) where
  -- a function that has a statement is one of the program
  stated : (g : ℕ) (d : Doing) → Contains (doings_of p g) d → g < length p.functions
  stated g d c = within p.functions g c
    where
      within : (fs : List Function) (g : ℕ) → Contains (option_map_or (λ (f : Function). body_doings f.body) (slice_get fs g) []) d → g < length fs
      within [] g c = absurd (contains_none d c)
      within (f ∷ fs) zero c = omega arith
      within (f ∷ fs) (suc g) c = let lt = within fs g c in omega (arith, lt)

  module _ (f : ℕ) where
    -- a call from a member to a function of the program that isn't one
    record NewCall (t : List Bool) : Type 0 where
      caller : ℕ
      callee : ℕ
      id : ℕ
      to : Target
      args : List Expr
      calling : IsTrue (has t caller)
      member : Contains (doings_of p caller) (Calls id to callee args)
      low : callee < length t
      new : has t callee ≡ false

    -- the set has what its member g calls, by these statements
    abbrev HasCalled : List Bool → ℕ → List Doing → Type 0
    HasCalled t g ds = (i h : ℕ) (to : Target) (args : List Expr) → Contains ds (Calls i to h args) → IsTrue (has t g) → h < length t → IsTrue (has t h)

    abbrev Found : List Bool → ℕ → List Doing → Type 0
    Found t g ds = NewCall t ⊎ HasCalled t g ds

    -- one statement more
    with_one : (t : List Bool) (g : ℕ) (d : Doing) (ds : List Doing) → HasCalled t g (d ∷ []) → HasCalled t g ds → HasCalled t g (d ∷ ds)
    with_one t g d ds one rest i h to args c = elim (contains_cases d ds (Calls i to h args) c) [
      | inl same ↦ one i h to args (subst (Contains (d ∷ [])) same (contains_head d []))
      | inr later ↦ rest i h to args later
    ]

    same_callee : {i j g h : ℕ} {to other : Target} {args more : List Expr} → Calls i to g args ≡ Calls j other h more → g ≡ h
    same_callee e = cc

    lone_call : (t : List Bool) (g i h : ℕ) (to : Target) (args : List Expr) → (IsTrue (has t g) → h < length t → IsTrue (has t h)) → HasCalled t g (Calls i to h args ∷ [])
    lone_call t g i h to args there j k other more c = elim (contains_cases (Calls i to h args) [] (Calls j other k more) c) [
      | inl same ↦ subst (λ x. IsTrue (has t g) → x < length t → IsTrue (has t x)) (same_callee same) there
      | inr later ↦ absurd (contains_none _ later)
    ]

    search_one : (t : List Bool) (g : ℕ) (d : Doing) → Contains (doings_of p g) d → Found t g (d ∷ [])
    search_one t g (Does i a) member = inr (λ j k other more c. elim (contains_cases (Does i a) [] (Calls j other k more) c) [
      | inl same ↦ let e : Does i a ≡ Calls j other k more = same in absurd cc
      | inr later ↦ absurd (contains_none _ later)
    ])
    search_one t g (Calls i to h args) member = elim (cases_lt h (length t)) [
      | inl low ↦ elim (cases_Bool (has t g)) [
        | inl from ↦ elim (cases_Bool (has t h)) [
          | inl there ↦ inr (lone_call t g i h to args (λ a b. there))
          | inr new ↦ inl (record { caller = g; callee = h; id = i; to = to; args = args; calling = from; member = member; low = low; new = new })
        ]
        | inr none ↦ inr (lone_call t g i h to args (λ a b. absurd (false≢true (sym none ∙ a))))
      ]
      | inr high ↦ inr (lone_call t g i h to args (λ a b. absurd (omega (arith, high, b))))
    ]

    search_in : (t : List Bool) (g : ℕ) (ds : List Doing) → ((d : Doing) → Contains ds d → Contains (doings_of p g) d) → Found t g ds
    search_in t g [] all = inr (λ i h to args c. absurd (contains_none _ c))
    search_in t g (d ∷ ds) all = elim (search_in t g ds (λ x c. all x (contains_cons d ds x c))) [
      | inl found ↦ inl found
      | inr rest ↦ elim (search_one t g d (all d (contains_head d ds))) [
        | inl found ↦ inl found
        | inr one ↦ inr (with_one t g d ds one rest)
      ]
    ]

    abbrev IsClosedBelow : ℕ → List Bool → Type 0
    IsClosedBelow n t = (g : ℕ) → g < n → HasCalled t g (doings_of p g)

    search_below : (n : ℕ) (t : List Bool) → NewCall t ⊎ IsClosedBelow n t
    search_below zero t = inr (λ g lt. absurd (omega (arith, lt)))
    search_below (suc n) t = elim (search_below n t) [
      | inl found ↦ inl found
      | inr before ↦ elim (search_in t n (doings_of p n) (λ d c. c)) [
        | inl found ↦ inl found
        | inr here ↦ inr (λ g lt. elim (cases_eq g n) [
          | inl same ↦ subst (λ h. HasCalled t h (doings_of p h)) (sym same) here
          | inr other ↦ before g (omega (arith, lt, other))
        ])
      ]
    ]

    -- exactly the functions of the program that are called from f
    pub record Reached : Type 0 where
      pub members : List Bool
      pub sound : (g : ℕ) → IsTrue (has members g) → IsCalledFrom p f g
      pub all : (g : ℕ) → g < length p.functions → IsCalledFrom p f g → IsTrue (has members g)

    reaches_all : (t : List Bool) → length t ≡ length p.functions → (f < length p.functions → IsTrue (has t f)) → IsClosedBelow (length p.functions) t → (g : ℕ) → g < length p.functions → IsCalledFrom p f g → IsTrue (has t g)
    reaches_all t long first closed g lt itself = first lt
    reaches_all t long first closed h lt (call {g = g} {i = i} {to = to} {args = args} from member) =
        let low = stated g (Calls i to h args) member in
        closed g low i h to args member (reaches_all t long first closed g low from) (omega (arith, lt, long))

    close : (fuel : ℕ) (t : List Bool) → length t ≡ length p.functions → (f < length p.functions → IsTrue (has t f)) → ((g : ℕ) → IsTrue (has t g) → IsCalledFrom p f g) → length t ≤ fuel + count_of t → Reached
    close zero t long first sound room = elim (search_below (length p.functions) t) [
      | inl n ↦ let lt = count_room t n.callee n.low n.new in absurd (omega (arith, lt, room))
      | inr closed ↦ record { members = t; sound = sound; all = reaches_all t long first closed }
    ]
    close (suc fuel) t long first sound room = elim (search_below (length p.functions) t) [
      | inl n ↦
          let more = count-set t n.callee n.low n.new in
          let same = length-set t n.callee true in
          close fuel (set t n.callee true) (same ∙ long) (λ lt. has_set t n.callee f (first lt)) (λ g h. elim (has_set_cases t n.callee g h) [
            | inl old ↦ sound g old
            | inr new ↦ subst (IsCalledFrom p f) (sym new) (call (sound n.caller n.calling) n.member)
          ]) (omega (arith, more, same, room))
      | inr closed ↦ record { members = t; sound = sound; all = reaches_all t long first closed }
    ]

    abbrev none : List Bool
    none = replicate (length p.functions) false

    pub reached : Reached
    reached =
        let same : length (set none f true) ≡ length p.functions = length-set none f true ∙ length-replicate (length p.functions) false in
        close (length p.functions) (set none f true) same (λ lt. has_set_same none f (let long : length none ≡ length p.functions = length-replicate (length p.functions) false in omega (arith, lt, long)))
        (λ g h. elim (has_set_cases none f g h) [
          | inl old ↦ absurd (false≢true (sym (has-empty (length p.functions) g) ∙ old))
          | inr new ↦ subst (IsCalledFrom p f) (sym new) itself
        ]) (omega (arith, same))

  -- ---- what each function modifies and uses

  module _ (points : TargetsOf) where
    -- some statement of a function that is called from f passes, and the location is seen outside
    abbrev any_called : (ℕ → Doing → Bool) → ℕ → Bool
    any_called test f = any_below (length p.functions) (λ g. has (reached f).members g && list_any (test g) (doings_of p g))

    pub record IsCalledStatement (test : ℕ → Doing → Bool) (f : ℕ) : Type 0 where
      pub function : ℕ
      pub doing : Doing
      pub called : IsCalledFrom p f function
      pub member : Contains (doings_of p function) doing
      pub passes : test function doing ≡ true

    called_any : (test : ℕ → Doing → Bool) (f : ℕ) → any_called test f ≡ true → IsCalledStatement test f
    called_any test f h =
        let r = below_any (length p.functions) (λ g. has (reached f).members g && list_any (test g) (doings_of p g)) h in
        let both = and_parts (has (reached f).members r.0) (list_any (test r.0) (doings_of p r.0)) r.2 in
        let d = any_in (test r.0) (doings_of p r.0) both.1 in
        record { function = r.0; doing = d.0; called = (reached f).sound r.0 both.0; member = d.1; passes = d.2 }

    any_is_called : (test : ℕ → Doing → Bool) (f g : ℕ) (d : Doing) → IsCalledFrom p f g → Contains (doings_of p g) d → test g d ≡ true → any_called test f ≡ true
    any_is_called test f g d called member passes =
        let low = stated g d member in
        any_at (length p.functions) (λ h. has (reached f).members h && list_any (test h) (doings_of p h)) g low (and_from (has (reached f).members g) (list_any (test g) (doings_of p g)) ((reached f).all g low called) (in_any (test g) (doings_of p g) d member passes))

    abbrev pub found_effects : FunctionEffects
    found_effects = record {
      modified = λ f l. is_outside p l && any_called (λ g d. doing_defines p points g d l) f;
      used = λ f l. is_outside p l && any_called (λ g d. doing_uses p points d l) f;
    }

    modified_there : (f : ℕ) (l : Location) → found_effects.modified f l ≡ true → Modifies p points f l
    modified_there f l h =
        let both = and_parts (is_outside p l) (any_called (λ g d. doing_defines p points g d l) f) h in
        let r = called_any (λ g d. doing_defines p points g d l) f both.1 in
        record { function = r.function; doing = r.doing; called = r.called; member = r.member; defined = r.passes; outside = both.0 }

    there_modified : (f : ℕ) (l : Location) → Modifies p points f l → found_effects.modified f l ≡ true
    there_modified f l m =
        and_from (is_outside p l) (any_called (λ g d. doing_defines p points g d l) f) m.outside (any_is_called (λ g d. doing_defines p points g d l) f m.function m.doing m.called m.member m.defined)

    used_there : (f : ℕ) (l : Location) → found_effects.used f l ≡ true → MayUse p points f l
    used_there f l h =
        let both = and_parts (is_outside p l) (any_called (λ g d. doing_uses p points d l) f) h in
        let r = called_any (λ g d. doing_uses p points d l) f both.1 in
        record { function = r.function; doing = r.doing; called = r.called; member = r.member; used = r.passes; outside = both.0 }

    there_used : (f : ℕ) (l : Location) → MayUse p points f l → found_effects.used f l ≡ true
    there_used f l m =
        and_from (is_outside p l) (any_called (λ g d. doing_uses p points d l) f) m.outside (any_is_called (λ g d. doing_uses p points d l) f m.function m.doing m.called m.member m.used)

    -- by each relation of pointers a program has what its functions modify and use
    pub are_found_effects : AreFunctionEffects p points found_effects
    are_found_effects = record {
      modified_are = λ f l. (modified_there f l, there_modified f l);
      used_are = λ f l. (used_there f l, there_used f l);
    }
