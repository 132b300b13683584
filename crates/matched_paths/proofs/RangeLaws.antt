-- Vertices one after another that are of one function, and when they are all of it.
use Rattle.std.proofs.Common.{◌≡◌, ◌≢◌, ℕ, ◌+◌, ◌<◌, ◌≤◌, ◌==◌, inl, inr, true, false, List, length, get_or, Option, Some, None, slice_get, refl, sym, ap, ◌∙◌, arith}
use Rattle.std.specs.Option.{option_map_or}
use Rattle.std.proofs.lemmas.Bool.{cases_eq, cases_lt, false≢true}
use Rattle.std.proofs.lemmas.Bool.Decides.{nat_tests}
use Rattle.std.proofs.lemmas.Option.{same_Some, slice_get_within, slice_get-get_or, get_or_from_slice_get}
use Rattle.dep_model.specs.declared.vertex.Vertex.{Vertex}
use Rattle.dep_model.specs.declared.vertex.VertexKind.TheVariants.{Entry}
use Rattle.dep_model.specs.Facts.{IsIn}
use Rattle.dep_model.specs.Shapes.{AreConsecutive}
use Rattle.matched_paths.specs.VertexRanges.{is_of, AreApartAt, IsWholeFunction}

-- the vertices from `first` on below `last` are of the function
pub record IsRun (vs : List Vertex) (first last f : ℕ) : Type 0 where
  pub more : first < last
  pub inside : last ≤ length vs
  pub all : (v : ℕ) (x : Vertex) → first ≤ v → v < last → slice_get vs v ≡ Some x → x.function ≡ f

pub run_begins : (vs : List Vertex) (first : ℕ) (d : Vertex) → first < length vs → IsRun vs first (first + 1) (get_or vs first d).function
run_begins vs first d low = record {
  more = omega arith;
  inside = omega (arith, low);
  all = λ v x from below at.
      let same : v ≡ first = omega (arith, from, below) in
      ap (λ (y : Vertex). y.function) (sym (get_or_from_slice_get vs first x d (ap (slice_get vs) (sym same) ∙ at)));
}

-- a vertex that is there, of the function
record IsOf (vs : List Vertex) (v f : ℕ) : Type 0 where
  vertex : Vertex
  at : slice_get vs v ≡ Some vertex
  of : vertex.function ≡ f

found : (vs : List Vertex) (v f : ℕ) → is_of vs v f ≡ true → IsOf vs v f
found vs v f h = by_vertex (slice_get vs v) refl h
  where
    by_vertex : (o : Option Vertex) → slice_get vs v ≡ o → option_map_or (λ (x : Vertex). x.function == f) o false ≡ true → IsOf vs v f
    by_vertex None at h = absurd (false≢true h)
    by_vertex (Some x) at h = record { vertex = x; at = at; of = grind (arith, nat_tests, h) }

not_found : (vs : List Vertex) (v f : ℕ) (x : Vertex) → is_of vs v f ≡ false → slice_get vs v ≡ Some x → x.function ≢ f
not_found vs v f x h at e =
    let t : (x.function == f) ≡ true = grind (arith, nat_tests, e) in
    false≢true (sym h ∙ ap (λ o. option_map_or (λ (y : Vertex). y.function == f) o false) at ∙ t)

pub run_goes : (vs : List Vertex) (first last f : ℕ) → IsRun vs first last f → is_of vs last f ≡ true → IsRun vs first (last + 1) f
run_goes vs first last f r h =
    let w = found vs last f h in
    let more = r.more in
    let low : last < length vs = slice_get_within vs last w.vertex w.at in
    record {
      more = omega (arith, more);
      inside = omega (arith, low);
      all = λ v x from below at. elim (cases_eq v last) [
        | inl same ↦ ap (λ (y : Vertex). y.function) (same_Some _ _ (sym at ∙ ap (slice_get vs) same ∙ w.at)) ∙ w.of
        | inr other ↦ r.all v x from (omega (arith, below, other)) at
      ];
    }

module _ (vs : List Vertex) (first last f : ℕ) (consecutive : AreConsecutive vs) (apart : AreApartAt vs first) (r : IsRun vs first last f) (ends : is_of vs last f ≡ false) where
  abbrev d : Vertex
  d = record { function = 0; kind = Entry }

  at_first : slice_get vs first ≡ Some (get_or vs first d)
  at_first = slice_get-get_or vs first d (let more = r.more in let inside = r.inside in omega (arith, more, inside))

  first_of : (get_or vs first d).function ≡ f
  first_of = r.all first (get_or vs first d) (omega arith) r.more at_first

  -- no vertex of the function stands behind
  not_behind : (v : ℕ) (x : Vertex) → slice_get vs v ≡ Some x → x.function ≡ f → last ≤ v → ⊥
  not_behind v x at of behind =
      let low : v < length vs = slice_get_within vs v x at in
      let at_last : slice_get vs last ≡ Some (get_or vs last d) = slice_get-get_or vs last d (omega (arith, low, behind)) in
      let more = r.more in
      let same = consecutive first last v (get_or vs first d) (get_or vs last d) x (omega (arith, more)) behind at_first at_last at (first_of ∙ sym of) in
      not_found vs last f (get_or vs last d) ends at_last (same ∙ first_of)

  in_run : (v : ℕ) → IsIn vs f v → (first ≤ v) × (v < last)
  in_run v i = elim (cases_lt v first) [
    | inl before ↦ absurd (apart v first i.vertex (get_or vs first d) before (omega arith) i.at at_first (i.in_function ∙ sym first_of))
    | inr from ↦ elim (cases_lt v last) [
      | inl below ↦ (omega (arith, from), below)
      | inr behind ↦ absurd (not_behind v i.vertex i.at i.in_function (omega (arith, behind)))
    ]
  ]

  of_run : (v : ℕ) → (first ≤ v) × (v < last) → IsIn vs f v
  of_run v p =
      let below = p.1 in let inside = r.inside in
      let at = slice_get-get_or vs v d (omega (arith, below, inside)) in
      record { vertex = get_or vs v d; at = at; in_function = r.all v (get_or vs v d) p.0 p.1 at }

  pub run_whole : IsWholeFunction vs (record { first = first; last = last })
  run_whole = record { function = f; all = λ v. (in_run v, of_run v) }

  pub run_apart : AreApartAt vs last
  run_apart u v x y before behind at_u at_v same = elim (cases_lt u first) [
    | inl early ↦ let more = r.more in apart u v x y early (omega (arith, more, behind)) at_u at_v same
    | inr from ↦ not_behind v y at_v (sym same ∙ r.all u x (omega (arith, from)) before at_u) behind
  ]

-- nothing stands before the first vertex
pub apart_first : (vs : List Vertex) → AreApartAt vs 0
apart_first vs u v x y before behind at_u at_v same = absurd (omega (arith, before))
