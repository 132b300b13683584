-- The lists of vertices have exactly those that they are to have.
use Rattle.std.proofs.Common.{◌≡◌, ℕ, ◌+◌, ◌<◌, ◌==◌, List, length, get_or, slice_get, Contains, All, true, Some, refl, sym, ap, ◌∙◌, subst, arith}
use Rattle.std.proofs.lemmas.Bool.{false≢true}
use Rattle.std.proofs.lemmas.Bool.Decides.{Decides-eqb}
use Rattle.std.proofs.lemmas.List.Elements.{Contains-get_or}
use Rattle.std.proofs.lemmas.Option.{same_Some, slice_get_within}
use Rattle.dep_model.specs.declared.vertex.Slot.{Slot}
use Rattle.dep_model.specs.declared.vertex.Vertex.{Vertex}
use Rattle.dep_model.specs.declared.vertex.VertexKind.{VertexKind}
use Rattle.dep_model.specs.declared.vertex.VertexKind.TheVariants.{Entry, FormalIn, FormalOut, Statement, Call, ActualIn, ActualOut}
use Rattle.dep_model.specs.SystemGraph.{IsVertex}
use Rattle.dep_model.specs.VertexOrder.{in_function}
use Rattle.dep_model.proofs.VertexNumbers.{Passes, found_from, numbered_from}
use Rattle.sdg.specs.declared.vertex_lists.Grouping.{Grouping}
use Rattle.sdg.specs.declared.vertex_lists.Grouping.TheVariants.{Entries, FormalIns, FormalOuts, Calls}
use Rattle.sdg.specs.VertexLists.{AreVertexLists, has_key, list_at}

-- ---- of any grouping

pub listed_passes : (g : Grouping) (vs : List Vertex) (t : List (List ℕ)) (k v : ℕ) → AreVertexLists g vs t → Contains (list_at t k) v → Passes (has_key g k) vs v
listed_passes g vs t k v are m =
    let found = found_from (has_key g k) 0 vs v (subst (λ l. Contains l v) (are k) m) in
    let same : found.place ≡ v = omega (arith, found.number) in
    subst (Passes (has_key g k) vs) same found.found

pub passes_listed : (g : Grouping) (vs : List Vertex) (t : List (List ℕ)) (k v : ℕ) → AreVertexLists g vs t → Passes (has_key g k) vs v → Contains (list_at t k) v
passes_listed g vs t k v are w =
    let same : 0 + v ≡ v = omega arith in
    subst (λ l. Contains l v) (sym (are k)) (subst (Contains _) same (numbered_from (has_key g k) 0 vs v w))

pub listed_within : (g : Grouping) (vs : List Vertex) (t : List (List ℕ)) (k : ℕ) → AreVertexLists g vs t → All (λ v. v < length vs) (list_at t k)
listed_within g vs t k are i d low =
    let w = listed_passes g vs t k (get_or (list_at t k) i d) are (Contains-get_or (list_at t k) i d low) in
    slice_get_within vs (get_or (list_at t k) i d) w.one w.at

pub one_within : (g : Grouping) (vs : List Vertex) (t : List (List ℕ)) (k v : ℕ) → AreVertexLists g vs t → Contains (list_at t k) v → v < length vs
one_within g vs t k v are m = let w = listed_passes g vs t k v are m in slice_get_within vs v w.one w.at

-- ---- of each grouping

same_numbers : (i j : ℕ) → (i == j) ≡ true → i ≡ j
same_numbers i j = (Decides-eqb i j).0

own_number : (i : ℕ) → (i == i) ≡ true
own_number i = (Decides-eqb i i).1 refl

entry_key : (k f : ℕ) (kind : VertexKind) → has_key Entries k (in_function f kind) ≡ true → (f ≡ k) × (kind ≡ Entry)
entry_key k f Entry h = (same_numbers f k h, refl)
entry_key k f (FormalIn s) h = absurd (false≢true h)
entry_key k f (FormalOut s) h = absurd (false≢true h)
entry_key k f (Statement i) h = absurd (false≢true h)
entry_key k f (Call i) h = absurd (false≢true h)
entry_key k f (ActualIn i s) h = absurd (false≢true h)
entry_key k f (ActualOut i s) h = absurd (false≢true h)

formal_in_key : (k f : ℕ) (kind : VertexKind) → has_key FormalIns k (in_function f kind) ≡ true → f ≡ k
formal_in_key k f Entry h = absurd (false≢true h)
formal_in_key k f (FormalIn s) h = same_numbers f k h
formal_in_key k f (FormalOut s) h = absurd (false≢true h)
formal_in_key k f (Statement i) h = absurd (false≢true h)
formal_in_key k f (Call i) h = absurd (false≢true h)
formal_in_key k f (ActualIn i s) h = absurd (false≢true h)
formal_in_key k f (ActualOut i s) h = absurd (false≢true h)

formal_out_key : (k f : ℕ) (kind : VertexKind) → has_key FormalOuts k (in_function f kind) ≡ true → f ≡ k
formal_out_key k f Entry h = absurd (false≢true h)
formal_out_key k f (FormalIn s) h = absurd (false≢true h)
formal_out_key k f (FormalOut s) h = same_numbers f k h
formal_out_key k f (Statement i) h = absurd (false≢true h)
formal_out_key k f (Call i) h = absurd (false≢true h)
formal_out_key k f (ActualIn i s) h = absurd (false≢true h)
formal_out_key k f (ActualOut i s) h = absurd (false≢true h)

actual_in_key : (k f i : ℕ) (s : Slot) → has_key Calls k (in_function f (ActualIn i s)) ≡ true → i ≡ k
actual_in_key k f i s h = same_numbers i k h

actual_out_key : (k f i : ℕ) (s : Slot) → has_key Calls k (in_function f (ActualOut i s)) ≡ true → i ≡ k
actual_out_key k f i s h = same_numbers i k h

module _ (vs : List Vertex) (t : List (List ℕ)) where
  pub listed_entry : (f v : ℕ) → AreVertexLists Entries vs t → Contains (list_at t f) v → IsVertex vs f Entry v
  listed_entry f v are m =
      let w = listed_passes Entries vs t f v are m in
      let e = entry_key f w.one.function w.one.kind w.passing in
      w.at ∙ ap (λ g. Some (in_function g w.one.kind)) e.0 ∙ ap (λ k. Some (in_function f k)) e.1

  pub entry_listed : (f v : ℕ) → AreVertexLists Entries vs t → IsVertex vs f Entry v → Contains (list_at t f) v
  entry_listed f v are at = passes_listed Entries vs t f v are (record { one = in_function f Entry; at = at; passing = own_number f })

  -- a formal-in of a list is one of the list's function
  pub listed_formal_in : (f v : ℕ) (x : Vertex) (s : Slot) → AreVertexLists FormalIns vs t → Contains (list_at t f) v → slice_get vs v ≡ Some x → x.kind ≡ FormalIn s → IsVertex vs f (FormalIn s) v
  listed_formal_in f v x s are m at kind =
      let w = listed_passes FormalIns vs t f v are m in
      let e = formal_in_key f w.one.function w.one.kind w.passing in
      let same : Some w.one ≡ Some x = sym w.at ∙ at in
      let kind_is : w.one.kind ≡ FormalIn s = ap (λ (y : Vertex). y.kind) (same_Some _ _ same) ∙ kind in
      w.at ∙ ap (λ g. Some (in_function g w.one.kind)) e ∙ ap (λ k. Some (in_function f k)) kind_is

  pub formal_in_listed : (f v : ℕ) (s : Slot) → AreVertexLists FormalIns vs t → IsVertex vs f (FormalIn s) v → Contains (list_at t f) v
  formal_in_listed f v s are at = passes_listed FormalIns vs t f v are (record { one = in_function f (FormalIn s); at = at; passing = own_number f })

  pub listed_formal_out : (f v : ℕ) (x : Vertex) (s : Slot) → AreVertexLists FormalOuts vs t → Contains (list_at t f) v → slice_get vs v ≡ Some x → x.kind ≡ FormalOut s → IsVertex vs f (FormalOut s) v
  listed_formal_out f v x s are m at kind =
      let w = listed_passes FormalOuts vs t f v are m in
      let e = formal_out_key f w.one.function w.one.kind w.passing in
      let same : Some w.one ≡ Some x = sym w.at ∙ at in
      let kind_is : w.one.kind ≡ FormalOut s = ap (λ (y : Vertex). y.kind) (same_Some _ _ same) ∙ kind in
      w.at ∙ ap (λ g. Some (in_function g w.one.kind)) e ∙ ap (λ k. Some (in_function f k)) kind_is

  pub formal_out_listed : (f v : ℕ) (s : Slot) → AreVertexLists FormalOuts vs t → IsVertex vs f (FormalOut s) v → Contains (list_at t f) v
  formal_out_listed f v s are at = passes_listed FormalOuts vs t f v are (record { one = in_function f (FormalOut s); at = at; passing = own_number f })

  pub call_listed : (f i v : ℕ) → AreVertexLists Calls vs t → IsVertex vs f (Call i) v → Contains (list_at t i) v
  call_listed f i v are at = passes_listed Calls vs t i v are (record { one = in_function f (Call i); at = at; passing = own_number i })

  pub actual_in_listed : (f i v : ℕ) (s : Slot) → AreVertexLists Calls vs t → IsVertex vs f (ActualIn i s) v → Contains (list_at t i) v
  actual_in_listed f i v s are at = passes_listed Calls vs t i v are (record { one = in_function f (ActualIn i s); at = at; passing = own_number i })

  pub actual_out_listed : (f i v : ℕ) (s : Slot) → AreVertexLists Calls vs t → IsVertex vs f (ActualOut i s) v → Contains (list_at t i) v
  actual_out_listed f i v s are at = passes_listed Calls vs t i v are (record { one = in_function f (ActualOut i s); at = at; passing = own_number i })

  -- an actual of a statement's list is one of that statement
  pub listed_actual_in : (i v j : ℕ) (x : Vertex) (s : Slot) → AreVertexLists Calls vs t → Contains (list_at t i) v → slice_get vs v ≡ Some x → x.kind ≡ ActualIn j s → j ≡ i
  listed_actual_in i v j x s are m at kind =
      let w = listed_passes Calls vs t i v are m in
      let same : Some w.one ≡ Some x = sym w.at ∙ at in
      let one_is : w.one ≡ in_function x.function (ActualIn j s) = same_Some _ _ same ∙ ap (in_function x.function) kind in
      actual_in_key i x.function j s (subst (λ (y : Vertex). has_key Calls i y ≡ true) one_is w.passing)

  pub listed_actual_out : (i v j : ℕ) (x : Vertex) (s : Slot) → AreVertexLists Calls vs t → Contains (list_at t i) v → slice_get vs v ≡ Some x → x.kind ≡ ActualOut j s → j ≡ i
  listed_actual_out i v j x s are m at kind =
      let w = listed_passes Calls vs t i v are m in
      let same : Some w.one ≡ Some x = sym w.at ∙ at in
      let one_is : w.one ≡ in_function x.function (ActualOut j s) = same_Some _ _ same ∙ ap (in_function x.function) kind in
      actual_out_key i x.function j s (subst (λ (y : Vertex). has_key Calls i y ≡ true) one_is w.passing)
