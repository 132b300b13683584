-- Where the vertices of a statement stand among those of a program: one after another, and none elsewhere.
use Rattle.std.proofs.Common.{◌≡◌, ◌≢◌, ℕ, zero, suc, ◌+◌, ◌<◌, ◌≤◌, ◌==◌, List, [], ◌∷◌, ◌++◌, append_assoc, length, map, slice_get, Bool, true, false, Option, Some, None, inl, inr, refl, sym, ap, ◌∙◌, subst, arith, eqb-true}
use Rattle.std.specs.List.{range_with_len}
use Rattle.std.proofs.lemmas.Bool.{and_parts}
use Rattle.std.proofs.lemmas.List.{map-append}
use Rattle.c_language.proofs.Options.{none_there, some_same}
use Rattle.c_tree.specs.declared.program.Function.{Function}
use Rattle.c_tree.specs.declared.program.Program.{Program}
use Rattle.dep_model.specs.declared.vertex.Vertex.{Vertex}
use Rattle.dep_model.specs.declared.vertex.VertexKind.{VertexKind}
use Rattle.dep_model.specs.declared.vertex.VertexKind.TheVariants.{Entry, FormalIn, FormalOut, Statement, Call, ActualIn, ActualOut}
use Rattle.dep_model.specs.Doings.{Doing, Does, Calls, doing_number, body_doings, functions_doings, program_doings, doings_of}
use Rattle.dep_model.specs.FunctionVertices.{passes, numbers_from, numbers}
use Rattle.dep_model.specs.ModRef.{FunctionEffects}
use Rattle.dep_model.specs.SystemGraph.{Analysis, vertices_of, IsVertex}
use Rattle.dep_model.specs.VertexOrder.{arguments_from, in_function, touched, slots_of, target_slots, formal_ins, formal_outs, doing_vertices, all_vertices, function_kinds, vertices_from}
use Rattle.dep_model.proofs.Membership.{IsIn, in_either, of_map}
use Rattle.simulation.proofs.SharedSteps.{not_so}
use Rattle.simulation_locations.proofs.Runs.{numbers_between}

-- the number of the statement of which a kind is
abbrev pub of_kind : VertexKind → Option ℕ
of_kind Entry = None
of_kind (FormalIn s) = None
of_kind (FormalOut s) = None
of_kind (Statement i) = Some i
of_kind (Call i) = Some i
of_kind (ActualIn i s) = Some i
of_kind (ActualOut i s) = Some i

-- a test passes kinds of statement i alone
abbrev pub IsTestOf : (VertexKind → Bool) → ℕ → Type 0
IsTestOf test i = (k : VertexKind) → test k ≡ true → of_kind k ≡ Some i

-- ---- statements that have numbers of their own

abbrev pub Distinct : List Doing → Type 0
Distinct [] = Unit {0}
Distinct (d ∷ ds) = ((e : Doing) → IsIn ds e → doing_number e ≢ doing_number d) × Distinct ds

-- they are numbered one after another, from n on
abbrev AreFrom : ℕ → List Doing → Type 0
AreFrom n [] = Unit {0}
AreFrom n (d ∷ ds) = (doing_number d ≡ n) × AreFrom (suc n) ds

from_range : (n k : ℕ) (ds : List Doing) → map doing_number ds ≡ range_with_len n k → AreFrom n ds
from_range n k [] e = tt
from_range n zero (d ∷ ds) e = cc
from_range n (suc k) (d ∷ ds) e =
    let first : doing_number d ≡ n = cc in
    let rest : map doing_number ds ≡ range_with_len (n + 1) k = cc in
    (first, subst (λ m. AreFrom m ds) (omega arith) (from_range (n + 1) k ds rest))

from_first : (n : ℕ) (ds es : List Doing) → AreFrom n (ds ++ es) → AreFrom n ds
from_first n [] es h = tt
from_first n (d ∷ ds) es h = (h.0, from_first (suc n) ds es h.1)

from_second : (n : ℕ) (ds es : List Doing) → AreFrom n (ds ++ es) → AreFrom (n + length ds) es
from_second n [] es h = subst (λ m. AreFrom m es) (omega arith) h
from_second n (d ∷ ds) es h = subst (λ m. AreFrom m es) (omega arith) (from_second (suc n) ds es h.1)

from_below : (n : ℕ) (ds : List Doing) (d : Doing) → AreFrom n ds → IsIn ds d → n ≤ doing_number d
from_below n [] d h i = absurd i
from_below n (e ∷ ds) d h (inl is) = let k : doing_number d ≡ n = ap doing_number (sym is) ∙ h.0 in omega (arith, k)
from_below n (e ∷ ds) d h (inr i) = let k = from_below (suc n) ds d h.1 i in omega (arith, k)

distinct_from : (n : ℕ) (ds : List Doing) → AreFrom n ds → Distinct ds
distinct_from n [] h = tt
distinct_from n (d ∷ ds) h = (
  λ e i same. let low = from_below (suc n) ds e h.1 i in let here = h.0 in absurd (omega (arith, low, here, same)),
  distinct_from (suc n) ds h.1,
)

body_from : (n : ℕ) (gs : List Function) (f : ℕ) (g : Function) → AreFrom n (functions_doings gs) → slice_get gs f ≡ Some g → (m : ℕ) × AreFrom m (body_doings g.body)
body_from n [] f g h e = none_there e
body_from n (x ∷ gs) zero g h e = (n, subst (λ (y : Function). AreFrom n (body_doings y.body)) (some_same e) (from_first n (body_doings x.body) (functions_doings gs) h))
body_from n (x ∷ gs) (suc f) g h e = body_from (n + length (body_doings x.body)) gs f g (from_second n (body_doings x.body) (functions_doings gs) h) e

-- ---- among those of a function

module _ (p : Program) (effects : FunctionEffects) where
  pub doing_kind : (d : Doing) (k : VertexKind) → IsIn (doing_vertices p effects d) k → of_kind k ≡ Some (doing_number d)
  doing_kind (Does i x) k (inl e) = ap of_kind (sym e)
  doing_kind (Does i x) k (inr h) = absurd h
  doing_kind (Calls i to g args) k (inl e) = ap of_kind (sym e)
  doing_kind (Calls i to g args) k (inr h) =
      let ins = arguments_from 0 args ++ slots_of p effects (touched p effects g) in
      let outs = slots_of p effects (effects.modified g) ++ target_slots p effects to in
      elim (in_either (map (ActualIn i) ins) (map (ActualOut i) outs) k h) [
        | inl x ↦ ap of_kind (sym (of_map (ActualIn i) ins k x).2)
        | inr y ↦ ap of_kind (sym (of_map (ActualOut i) outs k y).2)
      ]

  all_kind : (ds : List Doing) (k : VertexKind) → IsIn (all_vertices p effects ds) k → (d : Doing) × IsIn ds d × (of_kind k ≡ Some (doing_number d))
  all_kind [] k h = absurd h
  all_kind (d ∷ ds) k h = elim (in_either (doing_vertices p effects d) (all_vertices p effects ds) k h) [
    | inl x ↦ (d, inl refl, doing_kind d k x)
    | inr y ↦ let w = all_kind ds k y in (w.0, inr w.1, w.2)
  ]

  -- the vertices of a statement among those of some
  record Among (all : List VertexKind) (d : Doing) : Type 0 where
    pub earlier : List VertexKind
    pub later : List VertexKind
    pub are : all ≡ earlier ++ (doing_vertices p effects d ++ later)
    pub none_earlier : (k : VertexKind) → IsIn earlier k → of_kind k ≢ Some (doing_number d)
    pub none_later : (k : VertexKind) → IsIn later k → of_kind k ≢ Some (doing_number d)

  among : (ds : List Doing) (d : Doing) → Distinct ds → IsIn ds d → Among (all_vertices p effects ds) d
  among [] d h i = absurd i
  among (e ∷ ds) d h (inl is) = record {
    earlier = [];
    later = all_vertices p effects ds;
    are = ap (λ (x : Doing). doing_vertices p effects x ++ all_vertices p effects ds) is;
    none_earlier = λ k i. absurd i;
    none_later = λ k i same.
        let w = all_kind ds k i in
        h.0 w.0 w.1 (some_same (sym w.2 ∙ same) ∙ sym (ap doing_number is));
  }
  among (e ∷ ds) d h (inr i) =
      let w = among ds d h.1 i in
      record {
        earlier = doing_vertices p effects e ++ w.earlier;
        later = w.later;
        are = ap (λ ks. doing_vertices p effects e ++ ks) w.are ∙ sym (append_assoc (doing_vertices p effects e) w.earlier (doing_vertices p effects d ++ w.later));
        none_earlier = λ k j. elim (in_either (doing_vertices p effects e) w.earlier k j) [
          | inl x ↦ (λ same. h.0 d i (some_same (sym same ∙ doing_kind e k x)))
          | inr y ↦ w.none_earlier k y
        ];
        none_later = w.none_later;
      }

  formal_in_kind : (f : ℕ) (k : VertexKind) → IsIn (formal_ins p effects f) k → of_kind k ≡ None
  formal_in_kind f k h = ap of_kind (sym (of_map FormalIn _ k h).2)

  formal_out_kind : (f : ℕ) (k : VertexKind) → IsIn (formal_outs p effects f) k → of_kind k ≡ None
  formal_out_kind f k h = ap of_kind (sym (of_map FormalOut _ k h).2)

  nobody : (k : VertexKind) (i : ℕ) → of_kind k ≡ None → of_kind k ≢ Some i
  nobody k i h e = none_there (sym h ∙ e)

  in_kinds : (f : ℕ) (d : Doing) → Distinct (doings_of p f) → IsIn (doings_of p f) d → Among (function_kinds p effects f) d
  in_kinds f d h i =
      let w = among (doings_of p f) d h i in
      let ins = formal_ins p effects f in
      let outs = formal_outs p effects f in
      let own = doing_vertices p effects d in
      let inside : all_vertices p effects (doings_of p f) ++ outs ≡ w.earlier ++ (own ++ (w.later ++ outs)) = ap (λ ks. ks ++ outs) w.are ∙ (append_assoc w.earlier (own ++ w.later) outs ∙ ap (λ ks. w.earlier ++ ks) (append_assoc own w.later outs)) in
      record {
        earlier = Entry ∷ (ins ++ w.earlier);
        later = w.later ++ outs;
        are = ap (λ ks. Entry ∷ ks) (ap (λ ks. ins ++ ks) inside ∙ sym (append_assoc ins w.earlier (own ++ (w.later ++ outs))));
        none_earlier = λ k j. early k j;
        none_later = λ k j. elim (in_either w.later outs k j) [ inl x ↦ w.none_later k x | inr y ↦ nobody k (doing_number d) (formal_out_kind f k y) ];
      }
    where
      early : (k : VertexKind) → IsIn (Entry ∷ (formal_ins p effects f ++ (among (doings_of p f) d h i).earlier)) k → of_kind k ≢ Some (doing_number d)
      early k (inl e) = nobody k (doing_number d) (ap of_kind (sym e))
      early k (inr j) = elim (in_either (formal_ins p effects f) (among (doings_of p f) d h i).earlier k j) [
        | inl x ↦ nobody k (doing_number d) (formal_in_kind f k x)
        | inr y ↦ (among (doings_of p f) d h i).none_earlier k y
      ]

  -- ---- among those of functions

  -- a vertex of another function, or not of the statement
  abbrev IsOther : ℕ → Doing → Vertex → Type 0
  IsOther f d v = v.function ≡ f → of_kind v.kind ≢ Some (doing_number d)

  pub record StandsIn (all : List Vertex) (f : ℕ) (d : Doing) : Type 0 where
    pub earlier : List Vertex
    pub later : List Vertex
    pub are : all ≡ earlier ++ (map (in_function f) (doing_vertices p effects d) ++ later)
    pub none_earlier : (v : Vertex) → IsIn earlier v → IsOther f d v
    pub none_later : (v : Vertex) → IsIn later v → IsOther f d v

  from_function : (n : ℕ) (gs : List Function) (v : Vertex) → IsIn (vertices_from p effects n gs) v → n ≤ v.function
  from_function n [] v h = absurd h
  from_function n (g ∷ gs) v h = elim (in_either (map (in_function n) (function_kinds p effects n)) (vertices_from p effects (suc n) gs) v h) [
    | inl x ↦ let e : n ≡ v.function = ap (λ (y : Vertex). y.function) (of_map (in_function n) (function_kinds p effects n) v x).2 in omega (arith, e)
    | inr y ↦ let low = from_function (suc n) gs v y in omega (arith, low)
  ]

  abbrev own : ℕ → List Vertex
  own n = map (in_function n) (function_kinds p effects n)

  first_stands : (f : ℕ) (d : Doing) (rest : List Vertex) → ((v : Vertex) → IsIn rest v → f < v.function) → Among (function_kinds p effects f) d → StandsIn (own f ++ rest) f d
  first_stands f d rest past w =
      let mine = map (in_function f) (doing_vertices p effects d) in
      let before = map (in_function f) w.earlier in
      let behind = map (in_function f) w.later in
      let split : own f ≡ before ++ (mine ++ behind) = ap (map (in_function f)) w.are ∙ (map-append (in_function f) w.earlier (doing_vertices p effects d ++ w.later) ∙ ap (λ vs. before ++ vs) (map-append (in_function f) (doing_vertices p effects d) w.later)) in
      record {
        earlier = before;
        later = behind ++ rest;
        are = ap (λ vs. vs ++ rest) split ∙ (append_assoc before (mine ++ behind) rest ∙ ap (λ vs. before ++ vs) (append_assoc mine behind rest));
        none_earlier = λ v i same. let k = of_map (in_function f) w.earlier v i in subst (λ (x : Vertex). of_kind x.kind ≢ Some (doing_number d)) k.2 (w.none_earlier k.0 k.1);
        none_later = λ v i same. elim (in_either behind rest v i) [
          | inl x ↦ (let k = of_map (in_function f) w.later v x in subst (λ (x : Vertex). of_kind x.kind ≢ Some (doing_number d)) k.2 (w.none_later k.0 k.1))
          | inr y ↦ (let low = past v y in absurd (omega (arith, low, same)))
        ];
      }

  stands_from : (n : ℕ) (gs : List Function) (f k : ℕ) (d : Doing) → f ≡ n + k → k < length gs → Among (function_kinds p effects f) d → StandsIn (vertices_from p effects n gs) f d
  stands_from n [] f k d e lt w = absurd (omega (arith, lt))
  stands_from n (g ∷ gs) f zero d e lt w =
      let here : f ≡ n = omega (arith, e) in
      let past : (v : Vertex) → IsIn (vertices_from p effects (suc n) gs) v → f < v.function = (λ v i. let low = from_function (suc n) gs v i in omega (arith, low, here)) in
      subst (λ m. StandsIn (own m ++ vertices_from p effects (suc n) gs) f d) here (first_stands f d (vertices_from p effects (suc n) gs) past w)
  stands_from n (g ∷ gs) f (suc k) d e lt w =
      let s = stands_from (suc n) gs f k d (omega (arith, e)) (omega (arith, lt)) w in
      record {
        earlier = own n ++ s.earlier;
        later = s.later;
        are = ap (λ vs. own n ++ vs) s.are ∙ sym (append_assoc (own n) s.earlier (map (in_function f) (doing_vertices p effects d) ++ s.later));
        none_earlier = λ v i same. elim (in_either (own n) s.earlier v i) [
          | inl x ↦ (let q : n ≡ v.function = ap (λ (y : Vertex). y.function) (of_map (in_function n) (function_kinds p effects n) v x).2 in absurd (omega (arith, e, q, same)))
          | inr y ↦ s.none_earlier v y same
        ];
        none_later = s.none_later;
      }

-- ---- places in lists one after another

pub get_first : {A : Type 0} (us vs : List A) (j : ℕ) (x : A) → slice_get us j ≡ Some x → slice_get (us ++ vs) j ≡ Some x
get_first [] vs j x e = none_there e
get_first (u ∷ us) vs zero x e = e
get_first (u ∷ us) vs (suc j) x e = get_first us vs j x e

pub get_past : {A : Type 0} (us vs : List A) (j : ℕ) (x : A) → slice_get vs j ≡ Some x → slice_get (us ++ vs) (length us + j) ≡ Some x
get_past [] vs j x e = let z : 0 + j ≡ j = omega arith in subst (λ n. slice_get vs n ≡ Some x) (sym z) e
get_past (u ∷ us) vs j x e =
    let z : suc (length us + j) ≡ suc (length us) + j = omega arith in subst (λ n. slice_get (u ∷ (us ++ vs)) n ≡ Some x) z (get_past us vs j x e)

-- ---- among those of the program

module _ (p : Program) (a : Analysis) (numbered : map doing_number (program_doings p) ≡ range_with_len 0 p.statements) where
  -- a statement's vertices stand from one number on
  pub record HasVertices (f : ℕ) (d : Doing) : Type 0 where
    pub first : ℕ
    pub numbers_are : (test : VertexKind → Bool) → IsTestOf test (doing_number d) → numbers test f (vertices_of p a) ≡ numbers_from (passes test f) first (map (in_function f) (doing_vertices p a.effects d))
    pub kinds_are : (j : ℕ) (k : VertexKind) → slice_get (doing_vertices p a.effects d) j ≡ Some k → IsVertex (vertices_of p a) f k (first + j)

  get_mapped : {A B : Type 0} (h : A → B) (xs : List A) (j : ℕ) (x : A) → slice_get xs j ≡ Some x → slice_get (map h xs) j ≡ Some (h x)
  get_mapped h [] j x e = none_there e
  get_mapped h (y ∷ xs) zero x e = ap (λ z. Some (h z)) (some_same e)
  get_mapped h (y ∷ xs) (suc j) x e = get_mapped h xs j x e

  get_between : {A : Type 0} (us vs ws : List A) (j : ℕ) (x : A) → slice_get vs j ≡ Some x → slice_get (us ++ (vs ++ ws)) (length us + j) ≡ Some x
  get_between us vs ws j x e = get_past us (vs ++ ws) j x (get_first vs ws j x e)

  none_passes : (test : VertexKind → Bool) (f : ℕ) (d : Doing) (v : Vertex) → IsTestOf test (doing_number d) → IsOther p a.effects f d v → passes test f v ≡ false
  none_passes test f d v of other =
      not_so (passes test f v) (λ e. let w = and_parts (v.function == f) (test v.kind) e in other (eqb-true v.function f w.0) (of v.kind w.1))

  stands_has : (f : ℕ) (d : Doing) → StandsIn p a.effects (vertices_of p a) f d → HasVertices f d
  stands_has f d s = record {
    first = length s.earlier;
    numbers_are = λ test of. ap (numbers test f) s.are ∙ numbers_between (passes test f) s.earlier (map (in_function f) (doing_vertices p a.effects d)) s.later (λ v i. none_passes test f d v of (s.none_earlier v i)) (λ v i. none_passes test f d v of (s.none_later v i));
    kinds_are = λ j k e. subst (λ vs. slice_get vs (length s.earlier + j) ≡ Some (in_function f k)) (sym s.are) (get_between s.earlier (map (in_function f) (doing_vertices p a.effects d)) s.later j (in_function f k) (get_mapped (in_function f) (doing_vertices p a.effects d) j k e));
  }

  distinct_in : (f : ℕ) → (o : Option Function) → slice_get p.functions f ≡ o → (d : Doing) → IsIn (doings_of p f) d → (Distinct (doings_of p f)) × (f < length p.functions)
  distinct_in f None e d i = absurd (subst (λ ds. IsIn ds d) (of_none f e) i)
    where
      of_none : (f : ℕ) → slice_get p.functions f ≡ None → doings_of p f ≡ []
      of_none f e = rw e refl
  distinct_in f (Some g) e d i =
      let w = body_from 0 p.functions f g (from_range 0 p.statements (program_doings p) numbered) e in
      let all : doings_of p f ≡ body_doings g.body = rw e refl in
      (subst Distinct (sym all) (distinct_from w.0 (body_doings g.body) w.1), within p.functions f g e)
    where
      within : (gs : List Function) (f : ℕ) (g : Function) → slice_get gs f ≡ Some g → f < length gs
      within [] f g e = none_there e
      within (x ∷ gs) zero g e = omega arith
      within (x ∷ gs) (suc f) g e = let lt = within gs f g e in omega (arith, lt)

  pub has_vertices : (f : ℕ) (d : Doing) → IsIn (doings_of p f) d → HasVertices f d
  has_vertices f d i =
      let w = distinct_in f (slice_get p.functions f) refl d i in
      stands_has f d (stands_from p a.effects 0 p.functions f f d (omega arith) w.1 (in_kinds p a.effects f d w.0 i))
