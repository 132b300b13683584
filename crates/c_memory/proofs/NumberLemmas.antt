-- The number of the cell at the end of a path, step by step.
use Rattle.std.proofs.Common.{◌≡◌, ℕ, zero, suc, ◌+◌, ◌≤◌, List, [], ◌∷◌, length, drop, take, Bool, true, false, Option, Some, None, option_map, refl, sym, ap, ◌∙◌, arith, length-append}
use Rattle.std.proofs.lemmas.Option.{unwrap_or-slice_get}
use Rattle.std.specs.Prelude.{if◌then◌else◌, nat_lt, option_and_then, unwrap_or, slice_get, slice_index_or}
use Rattle.std.specs.Option.{option_map_or}
use Rattle.c_language.specs.declared.expr_type.Base.{Base}
use Rattle.c_language.specs.declared.expr_type.Layer.{Layer}
use Rattle.c_language.specs.declared.expr_type.Layer.TheVariants.{Pointer, Array}
use Rattle.c_language.specs.declared.expr_type.ExprType.{ExprType}
use Rattle.c_language.specs.ExprTypes.{is_scalar, struct_of}
use Rattle.c_language.proofs.Options.{none_there, some_same}
use Rattle.c_meaning.specs.declared.value.Hop.{Hop}
use Rattle.c_meaning.specs.declared.value.Hop.TheVariants as hop
use Rattle.c_meaning.specs.Cells.{Structs, Subobject, behind, layered_cells, member_cells, cells_behind, cell_count, member_in, part, subobject, scalar_number}
use Rattle.c_memory.specs.Counts.{saturated, members_at, element_offset}
use Rattle.c_memory.specs.Parts.{placed}

-- ---- the end of a path

by_scalar : (n : ℕ) (is : Bool) → (if is then Some (saturated n) else None) ≡ option_map saturated (if is then Some n else None)
by_scalar n true = refl
by_scalar n false = refl

-- the number of the cell that a part has
pub numbered : (x : Option Subobject) (o : Subobject) (r : Option ℕ) → Some o ≡ option_map (placed 0) x → r ≡ (if is_scalar o.type then Some o.before else None)
    → r ≡ option_map saturated (option_and_then scalar_number x)
numbered None o r e gives = none_there (sym e)
numbered (Some y) o r e gives =
    let zero_more : saturated (0 + y.before) ≡ saturated y.before = omega arith in
    gives ∙ ap scalar_number (some_same e) ∙ ap (λ (n : ℕ). if is_scalar y.type then Some n else None) zero_more ∙ by_scalar y.before (is_scalar y.type)

pub not_numbered : (x : Option Subobject) → ◌≡◌ {A = Option Subobject} None (option_map (placed 0) x) → ◌≡◌ {A = Option ℕ} None (option_map saturated (option_and_then scalar_number x))
not_numbered None e = refl
not_numbered (Some y) e = none_there e

pub part_at_end : (structs : Structs) (b : ℕ) (t : ExprType) → b ≤ 18446744073709551615
    → Some (record { type = t; before = b }) ≡ option_map (placed b) (subobject structs [] t)
part_at_end structs b t h = let e : b ≡ saturated (b + 0) = omega (arith, h) in ap (λ (n : ℕ). Some (record { type = t; before = n })) e

-- ---- a step

-- the part at the end of the other hops, where the first leads to this part
abbrev part_by : Structs → List Hop → Option Subobject → Option Subobject
part_by structs hs x = option_and_then (λ (o : Subobject). option_map (behind o.before) (subobject structs hs o.type)) x

shifted : (b step inside : ℕ) (x : Option Subobject) → step ≡ saturated inside
    → option_map (placed (saturated (b + step))) x ≡ option_map (placed b) (option_map (behind inside) x)
shifted b step inside None e = refl
shifted b step inside (Some o) e =
    let s : saturated (saturated (b + step) + o.before) ≡ saturated (b + (inside + o.before)) = omega (arith, e) in
    ap (λ (n : ℕ). Some (record { type = o.type; before = n })) s

-- a part that was found, with how many cells stand before it
pub record Found (x : Option Subobject) (step : ℕ) (t : ExprType) : Type 0 where
  pub before : ℕ
  pub is : x ≡ Some (record { type = t; before = before })
  pub counts : step ≡ saturated before

pub part_step : (structs : Structs) (h : Hop) (hs : List Hop) (t u : ExprType) (b step : ℕ) (r : Option Subobject) → Found (part structs h t) step u
    → r ≡ option_map (placed (saturated (b + step))) (subobject structs hs u) → r ≡ option_map (placed b) (subobject structs (h ∷ hs) t)
part_step structs h hs t u b step r f e = e ∙ shifted b step f.before (subobject structs hs u) f.counts ∙ ap (option_map (placed b)) (sym (ap (part_by structs hs) f.is))

-- ---- elements

found_by : (t : ExprType) (k step : ℕ) (is : Bool) → Some step ≡ option_map saturated (if is then Some k else None)
    → Found (if is then Some (record { type = t; before = k }) else None) step t
found_by t k step true e = record { before = k; is = refl; counts = some_same e }
found_by t k step false e = none_there (sym e)

pub element_found : (structs : Structs) (i : ℕ) (ls : List Layer) (b : Base) (step : ℕ)
    → Some step ≡ option_map saturated (element_offset (cells_behind [] structs) i ls b)
    → Found (part structs (hop.Element i) (record { layers = ls; base = b })) step (record { layers = drop 1 ls; base = b })
element_found structs i [] b step e = none_there (sym e)
element_found structs i (Pointer ∷ ls) b step e = none_there (sym e)
element_found structs i (Array n ∷ ls) b step e = found_by (record { layers = ls; base = b }) _ step (nat_lt i n) e

missing_by : (o : Subobject) (k : ℕ) (is : Bool) → ◌≡◌ {A = Option ℕ} None (option_map saturated (if is then Some k else None)) → (if is then Some o else None) ≡ None
missing_by o k true e = none_there e
missing_by o k false e = refl

pub element_missing : (structs : Structs) (i : ℕ) (ls : List Layer) (b : Base)
    → ◌≡◌ {A = Option ℕ} None (option_map saturated (element_offset (cells_behind [] structs) i ls b))
    → part structs (hop.Element i) (record { layers = ls; base = b }) ≡ None
element_missing structs i [] b e = refl
element_missing structs i (Pointer ∷ ls) b e = refl
element_missing structs i (Array n ∷ ls) b e = missing_by _ _ (nat_lt i n) e

-- ---- members

by_owner : (structs : Structs) (i : ℕ) (o : Option ℕ) → option_and_then (λ (s : ℕ). member_in structs i (slice_index_or structs s [])) o
    ≡ member_in structs i (option_map_or (λ (s : ℕ). unwrap_or (slice_get structs s) []) o [])
by_owner structs i None = refl
by_owner structs i (Some s) = ap (member_in structs i) (sym (unwrap_or-slice_get structs s []))

member_at : (structs : Structs) (i : ℕ) (ts : List ExprType) (t : ExprType) → slice_get ts i ≡ Some t
    → member_in structs i ts ≡ Some (record { type = t; before = length (member_cells (cells_behind [] structs) (take i ts)) })
member_at structs i [] t e = none_there e
member_at structs zero (u ∷ ts) t e = ap (λ (x : ExprType). Some (record { type = x; before = 0 })) (some_same e)
member_at structs (suc i) (u ∷ ts) t e =
    let known = cells_behind [] structs in
    ap (option_map (behind (cell_count structs u))) (member_at structs i ts t e)
    ∙ ap (λ (n : ℕ). Some (record { type = t; before = n })) (sym (length-append (layered_cells known u.layers u.base) (member_cells known (take i ts))))

pub member_found : (structs : Structs) (i : ℕ) (t u : ExprType) (step : ℕ) → slice_get (members_at structs t) i ≡ Some u
    → step ≡ saturated (length (member_cells (cells_behind [] structs) (take i (members_at structs t))))
    → Found (part structs (hop.Member i) t) step u
member_found structs i t u step is e =
    record {
      before = length (member_cells (cells_behind [] structs) (take i (members_at structs t)));
      is = by_owner structs i (struct_of t) ∙ member_at structs i (members_at structs t) u is;
      counts = e;
    }

no_member : (structs : Structs) (i : ℕ) (ts : List ExprType) → slice_get ts i ≡ None → member_in structs i ts ≡ None
no_member structs i [] e = refl
no_member structs zero (u ∷ ts) e = none_there (sym e)
no_member structs (suc i) (u ∷ ts) e = ap (option_map (behind (cell_count structs u))) (no_member structs i ts e)

pub member_missing : (structs : Structs) (i : ℕ) (t : ExprType) → slice_get (members_at structs t) i ≡ None → part structs (hop.Member i) t ≡ None
member_missing structs i t e = by_owner structs i (struct_of t) ∙ no_member structs i (members_at structs t) e

-- ---- turns of the code

pub element_turn : (structs : Structs) (i : ℕ) (path rest : List Hop) (ls rest_ls : List Layer) (b : Base) (before step sum : ℕ) (r : Option Subobject) → path ≡ hop.Element i ∷ rest
    → rest_ls ≡ drop 1 ls → Some step ≡ option_map saturated (element_offset (cells_behind [] structs) i ls b) → sum ≡ saturated (before + step)
    → r ≡ option_map (placed sum) (subobject structs rest (record { layers = rest_ls; base = b }))
    → r ≡ option_map (placed before) (subobject structs path (record { layers = ls; base = b }))
element_turn structs i path rest ls rest_ls b before step sum r is cut e added gives =
    let t : ExprType = record { layers = ls; base = b } in
    let u : ExprType = record { layers = drop 1 ls; base = b } in
    part_step structs (hop.Element i) rest t u before step r (element_found structs i ls b step e)
    (gives ∙ ap (λ (xs : List Layer). option_map (placed sum) (subobject structs rest (record { layers = xs; base = b }))) cut
    ∙ ap (λ (k : ℕ). option_map (placed k) (subobject structs rest u)) added)
    ∙ ap (λ (hs : List Hop). option_map (placed before) (subobject structs hs t)) (sym is)

pub member_turn : (structs : Structs) (i : ℕ) (path rest : List Hop) (t : ExprType) (members : List ExprType) (member : ExprType) (ls : List Layer) (before step sum : ℕ) (r : Option Subobject)
    → path ≡ hop.Member i ∷ rest → members ≡ members_at structs t → slice_get members i ≡ Some member
    → step ≡ saturated (length (member_cells (cells_behind [] structs) (take i members))) → sum ≡ saturated (before + step) → ls ≡ member.layers
    → r ≡ option_map (placed sum) (subobject structs rest (record { layers = ls; base = member.base })) → r ≡ option_map (placed before) (subobject structs path t)
member_turn structs i path rest t members member ls before step sum r is which at e added same gives =
    let found = member_found structs i t member step (ap (λ (ts : List ExprType). slice_get ts i) (sym which) ∙ at)
    (e ∙ ap (λ (ts : List ExprType). saturated (length (member_cells (cells_behind [] structs) (take i ts)))) which) in
    part_step structs (hop.Member i) rest t member before step r found
    (gives ∙ ap (λ (xs : List Layer). option_map (placed sum) (subobject structs rest (record { layers = xs; base = member.base }))) same
    ∙ ap (λ (k : ℕ). option_map (placed k) (subobject structs rest member)) added)
    ∙ ap (λ (hs : List Hop). option_map (placed before) (subobject structs hs t)) (sym is)

pub missing_turn : (structs : Structs) (h : Hop) (path rest : List Hop) (t : ExprType) (before : ℕ) → path ≡ h ∷ rest → part structs h t ≡ None
    → None ≡ option_map (placed before) (subobject structs path t)
missing_turn structs h path rest t before is none =
    ap (option_map (placed before)) (sym (ap (part_by structs rest) none)) ∙ ap (λ (hs : List Hop). option_map (placed before) (subobject structs hs t)) (sym is)

pub no_member_turn : (structs : Structs) (i : ℕ) (path rest : List Hop) (t : ExprType) (members : List ExprType) (before : ℕ) → path ≡ hop.Member i ∷ rest
    → members ≡ members_at structs t → slice_get members i ≡ None → None ≡ option_map (placed before) (subobject structs path t)
no_member_turn structs i path rest t members before is which none =
    missing_turn structs (hop.Member i) path rest t before is (member_missing structs i t (ap (λ (ts : List ExprType). slice_get ts i) (sym which) ∙ none))
