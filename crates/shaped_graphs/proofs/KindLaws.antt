-- Which kinds of vertices a function has: its entry, its formals, and for each of its statements what stands for that.
use Rattle.std.proofs.Common.{◌≡◌, ℕ, zero, suc, ◌+◌, ◌≤◌, inl, inr, List, [], ◌∷◌, ◌++◌, map, slice_get, Some, refl, sym, ap, ◌∙◌, subst, arith}
use Rattle.std.specs.Prelude.{if◌then◌else◌, Bool, true, false}
use Rattle.std.proofs.lemmas.Bool.{cases_eq}
use Rattle.std.proofs.lemmas.Option.{same_Some}
use Rattle.c_tree.specs.declared.expr.Expr.{Expr}
use Rattle.c_tree.specs.declared.program.Program.{Program}
use Rattle.c_tree.specs.declared.statement.Target.{Target}
use Rattle.dep_model.specs.declared.vertex.Slot.{Slot}
use Rattle.dep_model.specs.declared.vertex.Slot.TheVariants.{Argument, Result, At}
use Rattle.dep_model.specs.declared.vertex.VertexKind.{VertexKind}
use Rattle.dep_model.specs.declared.vertex.VertexKind.TheVariants.{Entry, FormalIn, FormalOut, Statement, Call, ActualIn, ActualOut}
use Rattle.dep_model.specs.Denoted.{Places}
use Rattle.dep_model.specs.Doings.{Doing, Does, Calls, doing_number, doings_of}
use Rattle.dep_model.specs.Locations.{TypedLocation, locations}
use Rattle.dep_model.specs.MayPoint.{parameters}
use Rattle.dep_model.specs.ModRef.{FunctionEffects}
use Rattle.dep_model.specs.VertexOrder.{arguments_from, slots_from, slots_of, touched, result_slots, target_slots, formal_ins, formal_outs, doing_vertices, all_vertices, function_kinds}
use Rattle.dep_model.proofs.EntryLaws.{at_mapped}
use Rattle.dep_model.proofs.Membership.{IsIn, in_first, in_second, in_either, in_map, of_map}
use Rattle.shaped_graphs.proofs.VertexLaws.{nowhere, IsOnce, at_of_in, in_of_at, once_first, once_second, once_mapped}

-- ---- slots are apart

abbrev number_of : Slot → ℕ
number_of (Argument k) = k
number_of Result = 0
number_of (At k) = k

-- an argument's slot has its place
argument_at : {A : Type 0} (k : ℕ) (as_ : List A) (v : ℕ) (s : Slot) → slice_get (arguments_from k as_) v ≡ Some s → s ≡ Argument (k + v)
argument_at k [] v s h = nowhere v s h
argument_at k (a ∷ as_) zero s h = let e : k ≡ k + 0 = omega arith in sym (same_Some _ _ h) ∙ ap Argument e
argument_at k (a ∷ as_) (suc v) s h = let e : suc k + v ≡ k + suc v = omega arith in argument_at (suc k) as_ v s h ∙ ap Argument e

arguments_once : {A : Type 0} (k : ℕ) (as_ : List A) (s : Slot) → IsOnce (arguments_from k as_) s
arguments_once k as_ s v w a b =
    let same : Argument (k + v) ≡ Argument (k + w) = sym (argument_at k as_ v s a) ∙ argument_at k as_ w s b in
    let numbers : k + v ≡ k + w = ap number_of same in
    omega (arith, numbers)

no_location : {A : Type 0} (k : ℕ) (as_ : List A) (m : ℕ) → IsIn (arguments_from k as_) (At m) → ⊥
no_location k [] m h = h
no_location k (a ∷ as_) m (inl e) = clash e
  where
    clash : Argument k ≡ At m → ⊥
    clash e = absurd cc
no_location k (a ∷ as_) m (inr h) = no_location (suc k) as_ m h

-- the slots of locations are those from the first on
module _ (test : Places) where
  location_slot : (k : ℕ) (os : List TypedLocation) (s : Slot) → IsIn (slots_from test k os) s → (m : ℕ) × (k ≤ m) × (s ≡ At m)
  location_slot k [] s h = absurd h
  location_slot k (o ∷ os) s h = by_test (test o.location) (λ j. location_slot (suc k) os s j) h
    where
      later : (m : ℕ) × (suc k ≤ m) × (s ≡ At m) → (m : ℕ) × (k ≤ m) × (s ≡ At m)
      later w = let le = w.1 in (w.0, omega (arith, le), w.2)

      by_test : (b : Bool) → (IsIn (slots_from test (suc k) os) s → (m : ℕ) × (suc k ≤ m) × (s ≡ At m)) → IsIn (if b then At k ∷ slots_from test (suc k) os else slots_from test (suc k) os) s → (m : ℕ) × (k ≤ m) × (s ≡ At m)
      by_test true more (inl e) = (k, omega arith, sym e)
      by_test true more (inr j) = later (more j)
      by_test false more j = later (more j)

  slots_once : (k : ℕ) (os : List TypedLocation) (s : Slot) → IsOnce (slots_from test k os) s
  slots_once k [] s v w a b = nowhere v s a
  slots_once k (o ∷ os) s v w a b = by_test (test o.location) (slots_once (suc k) os s) v w a b
    where
      not_again : (w : ℕ) → At k ≡ s → slice_get (slots_from test (suc k) os) w ≡ Some s → ⊥
      not_again w e h =
          let later = location_slot (suc k) os s (in_of_at (slots_from test (suc k) os) w s h) in
          let up = later.1 in
          let same : k ≡ later.0 = ap number_of (e ∙ later.2) in
          omega (arith, up, same)

      by_test : (b : Bool) → IsOnce (slots_from test (suc k) os) s → IsOnce (if b then At k ∷ slots_from test (suc k) os else slots_from test (suc k) os) s
      by_test true more zero zero a b = refl
      by_test true more zero (suc w) a b = absurd (not_again w (same_Some _ _ a) b)
      by_test true more (suc v) zero a b = absurd (not_again v (same_Some _ _ b) a)
      by_test true more (suc v) (suc w) a b = ap suc (more v w a b)
      by_test false more v w a b = more v w a b

-- what goes in has each slot once
in_slots_once : {A : Type 0} (as_ : List A) (test : Places) (os : List TypedLocation) (s : Slot) → IsOnce (arguments_from 0 as_ ++ slots_from test 0 os) s
in_slots_once as_ test os (Argument k) = once_first (arguments_from 0 as_) (slots_from test 0 os) (Argument k) (arguments_once 0 as_ (Argument k)) (λ h. no_argument (location_slot test 0 os (Argument k) h))
  where
    no_argument : (m : ℕ) × (0 ≤ m) × (Argument k ≡ At m) → ⊥
    no_argument w = let e : Argument k ≡ At w.0 = w.2 in absurd cc
in_slots_once as_ test os Result = once_first (arguments_from 0 as_) (slots_from test 0 os) Result (arguments_once 0 as_ Result) (λ h. no_result (location_slot test 0 os Result h))
  where
    no_result : (m : ℕ) × (0 ≤ m) × (Result ≡ At m) → ⊥
    no_result w = let e : Result ≡ At w.0 = w.2 in absurd cc
in_slots_once as_ test os (At m) = once_second (arguments_from 0 as_) (slots_from test 0 os) (At m) (no_location 0 as_ m) (slots_once test 0 os (At m))

-- ---- kinds are apart

is_mapped : {A : Type 0} (f : A → VertexKind) (xs : List A) (k : VertexKind) → ((x : A) → f x ≡ k → ⊥) → IsIn (map f xs) k → ⊥
is_mapped f xs k not h = let w = of_map f xs k h in not w.0 w.2

-- a formal is no statement's, and what is a statement's is of its number
abbrev pub number_in : VertexKind → ℕ → ℕ
number_in Entry n = n
number_in (FormalIn s) n = n
number_in (FormalOut s) n = n
number_in (Statement i) n = i
number_in (Call i) n = i
number_in (ActualIn i s) n = i
number_in (ActualOut i s) n = i

-- no two of some statements have one number
abbrev pub AreApart : List Doing → Type 0
AreApart ds = (v w : ℕ) (d e : Doing) → slice_get ds v ≡ Some d → slice_get ds w ≡ Some e → doing_number d ≡ doing_number e → v ≡ w

module _ (p : Program) (effects : FunctionEffects) where
  abbrev pub in_slots : ℕ → List Expr → List Slot
  in_slots g args = arguments_from 0 args ++ slots_of p effects (touched p effects g)

  abbrev pub out_slots : ℕ → Target → List Slot
  out_slots g to = slots_of p effects (effects.modified g) ++ target_slots p effects to

  pub doing_kind : (d : Doing) (k : VertexKind) (n : ℕ) → IsIn (doing_vertices p effects d) k → number_in k n ≡ doing_number d
  doing_kind (Does i a) k n (inl e) = ap (λ j. number_in j n) (sym e)
  doing_kind (Does i a) k n (inr h) = absurd h
  doing_kind (Calls i to g args) k n (inl e) = ap (λ j. number_in j n) (sym e)
  doing_kind (Calls i to g args) k n (inr h) = elim (in_either (map (ActualIn i) (in_slots g args)) (map (ActualOut i) (out_slots g to)) k h) [
    | inl a ↦ ap (λ j. number_in j n) (sym (of_map (ActualIn i) (in_slots g args) k a).2)
    | inr b ↦ ap (λ j. number_in j n) (sym (of_map (ActualOut i) (out_slots g to) k b).2)
  ]

  -- which statement a kind is of
  pub record OfDoing (ds : List Doing) (k : VertexKind) : Type 0 where
    pub doing : Doing
    pub member : IsIn ds doing
    pub has : IsIn (doing_vertices p effects doing) k

  in_all : (ds : List Doing) (d : Doing) (k : VertexKind) → IsIn ds d → IsIn (doing_vertices p effects d) k → IsIn (all_vertices p effects ds) k
  in_all [] d k h j = absurd h
  in_all (e ∷ ds) d k (inl same) j = in_first (doing_vertices p effects e) (all_vertices p effects ds) k (subst (λ x. IsIn (doing_vertices p effects x) k) (sym same) j)
  in_all (e ∷ ds) d k (inr h) j = in_second (doing_vertices p effects e) (all_vertices p effects ds) k (in_all ds d k h j)

  of_all : (ds : List Doing) (k : VertexKind) → IsIn (all_vertices p effects ds) k → OfDoing ds k
  of_all [] k h = absurd h
  of_all (d ∷ ds) k h = elim (in_either (doing_vertices p effects d) (all_vertices p effects ds) k h) [
    | inl a ↦ record { doing = d; member = inl refl; has = a }
    | inr b ↦ let w = of_all ds k b in record { doing = w.doing; member = inr w.member; has = w.has }
  ]

  -- ---- what stands where in a function

  data StandsAs (f : ℕ) (k : VertexKind) : Type 0 where
    as_entry : Entry ≡ k → StandsAs f k
    as_formal_in : (s : Slot) → FormalIn s ≡ k → IsIn (arguments_from 0 (parameters p f) ++ slots_of p effects (touched p effects f)) s → StandsAs f k
    as_statement : OfDoing (doings_of p f) k → StandsAs f k
    as_formal_out : (s : Slot) → FormalOut s ≡ k → IsIn (slots_of p effects (effects.modified f) ++ result_slots p effects f) s → StandsAs f k

  stands : (f : ℕ) (k : VertexKind) → IsIn (function_kinds p effects f) k → StandsAs f k
  stands f k (inl e) = as_entry e
  stands f k (inr h) = elim (in_either (formal_ins p effects f) (all_vertices p effects (doings_of p f) ++ formal_outs p effects f) k h) [
    | inl a ↦ let w = of_map FormalIn (arguments_from 0 (parameters p f) ++ slots_of p effects (touched p effects f)) k a in as_formal_in w.0 w.2 w.1
    | inr b ↦ elim (in_either (all_vertices p effects (doings_of p f)) (formal_outs p effects f) k b) [
      | inl c ↦ as_statement (of_all (doings_of p f) k c)
      | inr d ↦ let w = of_map FormalOut (slots_of p effects (effects.modified f) ++ result_slots p effects f) k d in as_formal_out w.0 w.2 w.1
    ]
  ]

  -- a kind of a statement
  abbrev pub IsOfStatement : VertexKind → Type 0
  IsOfStatement k = number_in k 0 ≡ number_in k 1

  no_formal : (d : Doing) (k : VertexKind) → number_in k 0 ≡ 0 → number_in k 1 ≡ 1 → IsIn (doing_vertices p effects d) k → ⊥
  no_formal d k zero_is one_is h =
      let one = doing_kind d k 0 h in
      let other = doing_kind d k 1 h in
      omega (arith, one, other, zero_is, one_is)

  abbrev in_of : Slot → VertexKind → Slot
  in_of s Entry = s
  in_of s (FormalIn t) = t
  in_of s (FormalOut t) = t
  in_of s (Statement i) = s
  in_of s (Call i) = s
  in_of s (ActualIn i t) = t
  in_of s (ActualOut i t) = t

  pub formal_in_of : (f : ℕ) (s : Slot) → IsIn (function_kinds p effects f) (FormalIn s) → IsIn (arguments_from 0 (parameters p f) ++ slots_of p effects (touched p effects f)) s
  formal_in_of f s h = elim (stands f (FormalIn s) h) [
    | as_entry e ↦ absurd cc
    | as_formal_in t e m ↦ subst (IsIn (arguments_from 0 (parameters p f) ++ slots_of p effects (touched p effects f))) (ap (in_of s) e) m
    | as_statement w ↦ absurd (no_formal w.doing (FormalIn s) refl refl w.has)
    | as_formal_out t e m ↦ absurd cc
  ]

  pub formal_out_of : (f : ℕ) (s : Slot) → IsIn (function_kinds p effects f) (FormalOut s) → IsIn (slots_of p effects (effects.modified f) ++ result_slots p effects f) s
  formal_out_of f s h = elim (stands f (FormalOut s) h) [
    | as_entry e ↦ absurd cc
    | as_formal_in t e m ↦ absurd cc
    | as_statement w ↦ absurd (no_formal w.doing (FormalOut s) refl refl w.has)
    | as_formal_out t e m ↦ subst (IsIn (slots_of p effects (effects.modified f) ++ result_slots p effects f)) (ap (in_of s) e) m
  ]

  pub statement_of : (f : ℕ) (k : VertexKind) → IsOfStatement k → IsIn (function_kinds p effects f) k → OfDoing (doings_of p f) k
  statement_of f k of h = elim (stands f k h) [
    | as_entry e ↦ let same : number_in Entry 0 ≡ number_in Entry 1 = subst IsOfStatement (sym e) of in absurd (omega (arith, same))
    | as_formal_in t e m ↦ let same : number_in (FormalIn t) 0 ≡ number_in (FormalIn t) 1 = subst IsOfStatement (sym e) of in absurd (omega (arith, same))
    | as_statement w ↦ w
    | as_formal_out t e m ↦ let same : number_in (FormalOut t) 0 ≡ number_in (FormalOut t) 1 = subst IsOfStatement (sym e) of in absurd (omega (arith, same))
  ]

  pub entry_there : (f : ℕ) → IsIn (function_kinds p effects f) Entry
  entry_there f = inl refl

  pub statement_there : (f : ℕ) (d : Doing) (k : VertexKind) → IsIn (doings_of p f) d → IsIn (doing_vertices p effects d) k → IsIn (function_kinds p effects f) k
  statement_there f d k m h =
      inr (in_second (formal_ins p effects f) (all_vertices p effects (doings_of p f) ++ formal_outs p effects f) k
      (in_first (all_vertices p effects (doings_of p f)) (formal_outs p effects f) k (in_all (doings_of p f) d k m h)))

  pub formal_out_there : (f : ℕ) (s : Slot) → IsIn (slots_of p effects (effects.modified f) ++ result_slots p effects f) s → IsIn (function_kinds p effects f) (FormalOut s)
  formal_out_there f s h =
      inr (in_second (formal_ins p effects f) (all_vertices p effects (doings_of p f) ++ formal_outs p effects f) (FormalOut s)
      (in_second (all_vertices p effects (doings_of p f)) (formal_outs p effects f) (FormalOut s) (in_map FormalOut (slots_of p effects (effects.modified f) ++ result_slots p effects f) s h)))

  -- ---- a call has its call, and its actuals

  pub record IsCallOf (d : Doing) (i : ℕ) : Type 0 where
    pub target : Target
    pub callee : ℕ
    pub args : List Expr
    pub is : d ≡ Calls i target callee args

  pub call_doing : (d : Doing) (i : ℕ) → IsIn (doing_vertices p effects d) (Call i) → IsCallOf d i
  call_doing (Does j a) i (inl e) = absurd cc
  call_doing (Does j a) i (inr h) = absurd h
  call_doing (Calls j to g args) i h =
      let same : i ≡ j = doing_kind (Calls j to g args) (Call i) 0 h in
      record { target = to; callee = g; args = args; is = ap (λ n. Calls n to g args) (sym same) }

  pub out_doing : (d : Doing) (i : ℕ) (s : Slot) → IsIn (doing_vertices p effects d) (ActualOut i s) → (c : IsCallOf d i) × IsIn (out_slots c.callee c.target) s
  out_doing (Does j a) i s (inl e) = absurd cc
  out_doing (Does j a) i s (inr h) = absurd h
  out_doing (Calls j to g args) i s (inl e) = absurd cc
  out_doing (Calls j to g args) i s (inr h) =
      let same : i ≡ j = doing_kind (Calls j to g args) (ActualOut i s) 0 (inr h) in
      let slot : IsIn (out_slots g to) s = elim (in_either (map (ActualIn j) (in_slots g args)) (map (ActualOut j) (out_slots g to)) (ActualOut i s) h) [
        | inl a ↦ let e : ActualIn j (of_map (ActualIn j) (in_slots g args) (ActualOut i s) a).0 ≡ ActualOut i s = (of_map (ActualIn j) (in_slots g args) (ActualOut i s) a).2 in absurd cc
        | inr b ↦ let w = of_map (ActualOut j) (out_slots g to) (ActualOut i s) b in subst (IsIn (out_slots g to)) (ap (in_of s) w.2) w.1
      ] in
      (record { target = to; callee = g; args = args; is = ap (λ n. Calls n to g args) (sym same) }, slot)

  -- ---- numbers that differ keep statements apart

  pub one_doing : (ds : List Doing) (d e : Doing) → AreApart ds → IsIn ds d → IsIn ds e → doing_number d ≡ doing_number e → d ≡ e
  one_doing ds d e apart h j same =
      let v = at_of_in ds d h in
      let w = at_of_in ds e j in
      let place : v.0 ≡ w.0 = apart v.0 w.0 d e v.1 w.1 same in
      same_Some _ _ (sym v.1 ∙ ap (slice_get ds) place ∙ w.1)

  -- the actual-in of a slot stands once among those of a statement
  mapped_once : (i j : ℕ) (xs : List Slot) (s : Slot) → IsOnce xs s → IsOnce (map (ActualIn i) xs) (ActualIn j s)
  mapped_once i j xs s once v w a b =
      let k = at_mapped (ActualIn i) xs v (ActualIn j s) a in
      let same : i ≡ j = ap (λ q. number_in q 0) k.1 in
      let here : IsOnce (map (ActualIn j) xs) (ActualIn j s) = once_mapped (ActualIn j) xs s (λ t e. ap (in_of s) e) once in
      subst (λ n. IsOnce (map (ActualIn n) xs) (ActualIn j s)) (sym same) here v w a b

  actual_once : (d : Doing) (j : ℕ) (s : Slot) → IsOnce (doing_vertices p effects d) (ActualIn j s)
  actual_once (Does i a) j s zero w h k = let e : Statement i ≡ ActualIn j s = same_Some _ _ h in absurd cc
  actual_once (Does i a) j s (suc v) w h k = nowhere v (ActualIn j s) h
  actual_once (Calls i to g args) j s zero w h k = let e : Call i ≡ ActualIn j s = same_Some _ _ h in absurd cc
  actual_once (Calls i to g args) j s (suc v) zero h k = let e : Call i ≡ ActualIn j s = same_Some _ _ k in absurd cc
  actual_once (Calls i to g args) j s (suc v) (suc w) h k =
      ap suc (once_first (map (ActualIn i) (in_slots g args)) (map (ActualOut i) (out_slots g to)) (ActualIn j s)
      (mapped_once i j (in_slots g args) s (in_slots_once args (touched p effects g) (locations p) s))
      (is_mapped (ActualOut i) (out_slots g to) (ActualIn j s) (λ t e. absurd cc)) v w h k)

  later_apart : (d : Doing) (ds : List Doing) → AreApart (d ∷ ds) → AreApart ds
  later_apart d ds apart v w a b at at' same = let e = apart (suc v) (suc w) a b at at' same in omega (arith, e)

  none_later : (d : Doing) (ds : List Doing) (k : VertexKind) → AreApart (d ∷ ds) → number_in k 0 ≡ doing_number d → IsIn (all_vertices p effects ds) k → ⊥
  none_later d ds k apart here h =
      let w = of_all ds k h in
      let at = at_of_in ds w.doing w.member in
      let same : doing_number d ≡ doing_number w.doing = sym here ∙ doing_kind w.doing k 0 w.has in
      let e = apart zero (suc at.0) d w.doing refl at.1 same in
      omega (arith, e)

  all_once : (ds : List Doing) (j : ℕ) (s : Slot) → AreApart ds → IsOnce (all_vertices p effects ds) (ActualIn j s)
  all_once [] j s apart v w a b = nowhere v (ActualIn j s) a
  all_once (d ∷ ds) j s apart v w a b = elim (cases_eq j (doing_number d)) [
    | inl here ↦ once_first (doing_vertices p effects d) (all_vertices p effects ds) (ActualIn j s) (actual_once d j s) (none_later d ds (ActualIn j s) apart here) v w a b
    | inr other ↦ once_second (doing_vertices p effects d) (all_vertices p effects ds) (ActualIn j s) (λ h. other (doing_kind d (ActualIn j s) 0 h)) (all_once ds j s (later_apart d ds apart)) v w a b
  ]

  pub actual_in_once : (f i : ℕ) (s : Slot) → AreApart (doings_of p f) → IsOnce (function_kinds p effects f) (ActualIn i s)
  actual_in_once f i s apart =
      let k = ActualIn i s in
      let ins = formal_ins p effects f in
      let all = all_vertices p effects (doings_of p f) in
      let outs = formal_outs p effects f in
      let tail : IsOnce (all ++ outs) k = once_first all outs k (all_once (doings_of p f) i s apart) (is_mapped FormalOut (slots_of p effects (effects.modified f) ++ result_slots p effects f) k (λ t e. absurd cc)) in
      let rest : IsOnce (ins ++ (all ++ outs)) k = once_second ins (all ++ outs) k (is_mapped FormalIn (arguments_from 0 (parameters p f) ++ slots_of p effects (touched p effects f)) k (λ t e. absurd cc)) tail in
      once_second (Entry ∷ []) (ins ++ (all ++ outs)) k (λ h. no_entry h) rest
    where
      no_entry : IsIn (Entry ∷ []) (ActualIn i s) → ⊥
      no_entry (inl e) = absurd cc
      no_entry (inr h) = h
