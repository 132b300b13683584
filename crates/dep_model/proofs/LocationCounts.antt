-- How many parts objects have, one after another, up to one more than the greatest number of locations.
use Rattle.std.proofs.Common.{◌≡◌, ℕ, suc, ◌+◌, ◌<◌, ◌≤◌, List, [], ◌∷◌, ◌++◌, length, map, drop, get_or, Bool, true, false, sym, ap, subst, ◌∙◌, inl, inr, Option, Some, arith, length-append}
use Rattle.std.proofs.Math.Seq.{drop-cons}
use Rattle.std.proofs.lemmas.Bool.{cases_lt}
use Rattle.std.proofs.lemmas.Grind.{common_steps}
use Rattle.std.proofs.lemmas.Option.{slice_get-get_or}
use Rattle.std.proofs.lemmas.Bool.Decides.{nat_tests}
use Rattle.std.proofs.lemmas.List.{length-map, get_or_append_left, get_or_push}
use Rattle.std.specs.Option.{option_map_or}
use Rattle.std.specs.Prelude.{nat_lt, slice_index_or, if◌then◌else◌}
use Rattle.c_tree.specs.declared.program.Member.{Member}
use Rattle.c_tree.specs.declared.program.Program.{Program}
use Rattle.c_tree.specs.declared.program.StructDef.{StructDef}
use Rattle.c_language.specs.TreeTypes.{shape_of, members_of}
use Rattle.c_language.specs.declared.expr_type.Base.{Base}
use Rattle.c_language.specs.declared.expr_type.Base.TheVariants as base
use Rattle.c_language.specs.declared.expr_type.Layer.{Layer}
use Rattle.c_language.specs.declared.expr_type.Layer.TheVariants.{Array}
use Rattle.dep_model.specs.Locations.{Located, below, parts_with, member_parts}
use Rattle.dep_model.specs.LocationLists.{AreStructsInOrder}
use Rattle.dep_model.specs.LocationObjects.{all_structs, placed_under, locations_of, object_locations, capped, AreSizes}
use Rattle.dep_model.specs.declared.location.Part.TheVariants as part
use Rattle.dep_model.specs.declared.locations.objects.Object.{Object}
use Rattle.dep_model.proofs.Membership.{contains_of_in}
use Rattle.dep_model.proofs.LocationParts.{members_agree, struct_unrolled, members_past}

pub capped_small : (n : ℕ) → capped n ≤ 4097
capped_small n = grind (arith, nat_tests)

pub capped_sum : (a b : ℕ) → capped (capped a + capped b) ≡ capped (a + b)
capped_sum a b = grind (arith, nat_tests)

pub capped_next : (a : ℕ) → capped (capped a + 1) ≡ capped (suc a)
capped_next a = grind (arith, nat_tests)

pub capped_again : (a : ℕ) → capped (capped a) ≡ capped a
capped_again a = grind (arith, nat_tests)

pub capped_above : (n : ℕ) → 4096 < capped n → 4096 < n
capped_above n h = grind (arith, nat_tests)

pub capped_within : (n : ℕ) → capped n ≤ 4096 → n ≤ 4096
capped_within n h = grind (arith, nat_tests)

by_cases : (sum one rest : ℕ) → capped (capped (sum + capped one) + rest) ≡ capped (sum + (one + rest))
by_cases sum one rest = grind (arith, nat_tests)

-- a count is added to a sum
pub turned : (sum new count one rest : ℕ) → count ≡ capped one → new ≡ capped (sum + count) → capped (new + rest) ≡ capped (sum + (one + rest))
turned sum new count one rest q r = ap (λ (k : ℕ). capped (k + rest)) (r ∙ ap (λ (k : ℕ). capped (sum + k)) q) ∙ by_cases sum one rest

-- ---- an object, by the parts of each struct type

pub struct_counted : (inside : ℕ → List Located) (s size : ℕ) → size ≡ capped (length (inside s)) → capped (capped size + 1) ≡ capped (length (parts_with inside [] (base.Struct s)))
struct_counted inside s size e =
    ap (λ (n : ℕ). capped (capped n + 1)) e ∙ ap (λ (n : ℕ). capped (n + 1)) (capped_again (length (inside s))) ∙ capped_next (length (inside s))

pub array_counted : (inside : ℕ → List Located) (n : ℕ) (ls : List Layer) (b : Base) (count : ℕ) → count ≡ capped (length (parts_with inside ls b))
    → capped (count + 1) ≡ capped (length (parts_with inside (Array n ∷ ls) b))
array_counted inside n ls b count e =
    let all = parts_with inside ls b in
    ap (λ (k : ℕ). capped (k + 1)) e ∙ capped_next (length all) ∙ ap (λ (k : ℕ). capped (suc k)) (sym (length-map all (below part.Element)))

-- ---- members

-- the members that are still to be counted add to what is counted
pub member_turn : (inside : ℕ → List Located) (ms : List Member) (i : ℕ) (m : Member) (sum new count total : ℕ)
    → i < length ms → m ≡ get_or ms i m → capped (sum + length (member_parts inside i (drop i ms))) ≡ total
    → count ≡ capped (length (parts_with inside (shape_of m.shape).layers (shape_of m.shape).base)) → new ≡ capped (sum + count)
    → capped (new + length (member_parts inside (i + 1) (drop (i + 1) ms))) ≡ total
member_turn inside ms i m sum new count total h is p q r =
    let here : drop i ms ≡ m ∷ drop (suc i) ms = drop-cons ms i m h ∙ ap (λ (x : Member). x ∷ drop (suc i) ms) (sym is) in
    let t = shape_of m.shape in
    let own = parts_with inside t.layers t.base in
    let rest = member_parts inside (suc i) (drop (suc i) ms) in
    let next : i + 1 ≡ suc i = omega arith in
    let both : length (member_parts inside i (drop i ms)) ≡ length own + length rest =
    ap (λ (xs : List Member). length (member_parts inside i xs)) here ∙ length-append (map (below (part.Member i)) own) rest
    ∙ ap (λ (k : ℕ). k + length rest) (length-map own (below (part.Member i))) in
    ap (λ (k : ℕ). capped (new + length (member_parts inside k (drop k ms)))) next
    ∙ turned sum new count (length own) (length rest) q r
    ∙ ap (λ (k : ℕ). capped (sum + k)) (sym both) ∙ p

-- ---- struct types

-- a function that gives parts for the struct types below a number alone
abbrev pub cut : ℕ → (ℕ → List Located) → ℕ → List Located
cut n inside s = if nat_lt s n then inside s else []

pub cut_below : (n : ℕ) (inside : ℕ → List Located) (s : ℕ) → s < n → inside s ≡ cut n inside s
cut_below n inside s h = let below : nat_lt s n ≡ true = grind (arith, nat_tests) in sym (ap (λ (b : Bool). if b then inside s else []) below)

-- the sizes of the struct types before a number
pub record AreFirstSizes (sizes : List ℕ) (n : ℕ) (inside : ℕ → List Located) : Type 0 where
  pub count : length sizes ≡ n
  pub each : (s : ℕ) → s < n → slice_index_or sizes s 0 ≡ capped (length (inside s))

past_end : (xs : List ℕ) (i : ℕ) → length xs ≤ i → slice_index_or xs i 0 ≡ 0
past_end xs i h = grind (arith, common_steps)

pub first_sizes : (sizes : List ℕ) (n : ℕ) (inside : ℕ → List Located) → AreFirstSizes sizes n inside → AreSizes sizes (cut n inside)
first_sizes sizes n inside a s =
    elim (cases_lt s n) [
      | inl low ↦ a.each s low ∙ ap (λ (os : List Located). capped (length os)) (cut_below n inside s low)
      | inr high ↦
          let beyond : nat_lt s n ≡ false = grind (arith, nat_tests) in
          past_end sizes s (omega (arith, a.count, high)) ∙ sym (ap (λ (b : Bool). capped (length (if b then inside s else []))) beyond)
    ]

struct_at : (p : Program) (i : ℕ) (d : StructDef) → i < length p.structs → d ≡ get_or p.structs i d → members_of p i ≡ d.members
struct_at p i d h is =
    ap (λ (o : Option StructDef). option_map_or (λ (x : StructDef). x.members) o []) (slice_get-get_or p.structs i d h ∙ ap (λ (x : StructDef). Some x) (sym is))

-- one struct type more
pub struct_turn : (p : Program) → AreStructsInOrder p → (sizes : List ℕ) (i : ℕ) (d : StructDef) (size : ℕ)
    → AreFirstSizes sizes i (all_structs p) → i < length p.structs → d ≡ get_or p.structs i d
    → size ≡ capped (length (member_parts (cut i (all_structs p)) 0 d.members)) → AreFirstSizes (sizes ++ size ∷ []) (i + 1) (all_structs p)
struct_turn p ordered sizes i d size a h is counted =
    let all = all_structs p in
    let ms = struct_at p i d h is in
    let same : member_parts (cut i all) 0 (members_of p i) ≡ all i =
    members_agree (cut i all) all i (λ s low. sym (cut_below i all s low)) 0 (members_of p i) (λ x k. ordered i x (contains_of_in (members_of p i) x k)) ∙ sym (struct_unrolled p ordered i) in
    let now : size ≡ capped (length (all i)) = counted ∙ ap (λ (xs : List Member). capped (length (member_parts (cut i all) 0 xs))) (sym ms) ∙ ap (λ (os : List Located). capped (length os)) same in
    record {
      count = length-append sizes (size ∷ []) ∙ ap (λ (k : ℕ). k + 1) a.count;
      each = λ s low.
          elim (cases_lt s i) [
            | inl below ↦ get_or_append_left sizes (size ∷ []) 0 s (omega (arith, below, a.count)) ∙ a.each s below
            | inr high ↦
                let here : i ≡ s = omega (arith, low, high) in
                get_or_push sizes size 0 s (a.count ∙ here) ∙ now ∙ ap (λ (k : ℕ). capped (length (all k))) here
          ];
    }

-- the sizes of all struct types
pub all_sizes : (p : Program) → AreStructsInOrder p → (sizes : List ℕ) → AreFirstSizes sizes (length p.structs) (all_structs p) → AreSizes sizes (all_structs p)
all_sizes p ordered sizes a s =
    elim (cases_lt s (length p.structs)) [
      | inl low ↦ a.each s low
      | inr high ↦
          past_end sizes s (omega (arith, a.count, high))
          ∙ sym (ap (λ (os : List Located). capped (length os)) (struct_unrolled p ordered s ∙ ap (member_parts (all_structs p) 0) (members_past p s high)))
    ]

-- ---- objects

pub object_turn : (p : Program) (os : List Object) (i : ℕ) (o : Object) (sum new count total : ℕ)
    → i < length os → o ≡ get_or os i o → capped (sum + length (locations_of p (drop i os))) ≡ total
    → count ≡ capped (length (parts_with (all_structs p) o.shape.layers o.shape.base)) → new ≡ capped (sum + count)
    → capped (new + length (locations_of p (drop (i + 1) os))) ≡ total
object_turn p os i o sum new count total h is e q r =
    let here : drop i os ≡ o ∷ drop (suc i) os = drop-cons os i o h ∙ ap (λ (x : Object). x ∷ drop (suc i) os) (sym is) in
    let own = parts_with (all_structs p) o.shape.layers o.shape.base in
    let rest = locations_of p (drop (suc i) os) in
    let next : i + 1 ≡ suc i = omega arith in
    let both : length (locations_of p (drop i os)) ≡ length own + length rest =
    ap (λ (xs : List Object). length (locations_of p xs)) here ∙ length-append (object_locations p o) rest
    ∙ ap (λ (k : ℕ). k + length rest) (length-map own (placed_under o.root [])) in
    ap (λ (k : ℕ). capped (new + length (locations_of p (drop k os)))) next ∙ turned sum new count (length own) (length rest) q r ∙ ap (λ (k : ℕ). capped (sum + k)) (sym both) ∙ e

-- ---- turns of loops

pub struct_step : (p : Program) → AreStructsInOrder p → (structs : List StructDef) (sizes given new : List ℕ) (i : ℕ) (d : StructDef) (size : ℕ) (ms : List Member)
    → structs ≡ p.structs → AreFirstSizes sizes i (all_structs p) → i < length structs → d ≡ get_or structs i d → given ≡ sizes → ms ≡ d.members
    → ((inside : ℕ → List Located) → AreSizes given inside → size ≡ capped (length (member_parts inside 0 ms))) → new ≡ sizes ++ size ∷ [] → AreFirstSizes new (i + 1) (all_structs p)
struct_step p ordered structs sizes given new i d size ms all a h is own mine counted q =
    let within : i < length p.structs = subst (λ (xs : List StructDef). i < length xs) all h in
    let here : d ≡ get_or p.structs i d = subst (λ (xs : List StructDef). d ≡ get_or xs i d) all is in
    let known : AreSizes given (cut i (all_structs p)) = subst (λ (xs : List ℕ). AreSizes xs (cut i (all_structs p))) (sym own) (first_sizes sizes i (all_structs p) a) in
    subst (λ (xs : List ℕ). AreFirstSizes xs (i + 1) (all_structs p)) (sym q)
    (struct_turn p ordered sizes i d size a within here
    (counted (cut i (all_structs p)) known ∙ ap (λ (xs : List Member). capped (length (member_parts (cut i (all_structs p)) 0 xs))) mine))

pub sizes_end : (p : Program) → AreStructsInOrder p → (structs : List StructDef) (sizes : List ℕ) (i : ℕ) → structs ≡ p.structs → i ≤ length structs → length structs ≤ i
    → AreFirstSizes sizes i (all_structs p) → AreSizes sizes (all_structs p)
sizes_end p ordered structs sizes i all below above a =
    let end : i ≡ length p.structs = omega (arith, below, above, ap (λ (xs : List StructDef). length xs) all) in
    all_sizes p ordered sizes (subst (λ (k : ℕ). AreFirstSizes sizes k (all_structs p)) end a)

-- all locations are above the limit, or within it, where the count is
pub counted_above : (p : Program) (objects : List Object) (sizes : List ℕ) (count : ℕ)
    → ((q : Program) → AreSizes sizes (all_structs q) → count ≡ capped (suc (length (locations_of q objects)))) → AreSizes sizes (all_structs p) → 4096 < count
    → 4096 < suc (length (locations_of p objects))
counted_above p objects sizes count is known h = capped_above (suc (length (locations_of p objects))) (subst (λ (k : ℕ). 4096 < k) (is p known) h)

pub counted_within : (p : Program) (objects : List Object) (sizes : List ℕ) (count : ℕ)
    → ((q : Program) → AreSizes sizes (all_structs q) → count ≡ capped (suc (length (locations_of q objects)))) → AreSizes sizes (all_structs p) → count ≤ 4096
    → suc (length (locations_of p objects)) ≤ 4096
counted_within p objects sizes count is known h = capped_within (suc (length (locations_of p objects))) (subst (λ (k : ℕ). k ≤ 4096) (is p known) h)
