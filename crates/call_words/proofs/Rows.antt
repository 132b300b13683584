-- What a parse of `clap` has found for a name, after one more use.
use Rattle.std.proofs.Common.{◌≡◌, ◌||◌, Bool, true, false, cond, List, [], ◌∷◌, ◌++◌, refl, sym, ap, ◌∙◌, Option, Some, None, true≢false}
use Rattle.std.specs.Prelude.{is_some}
use Rattle.std.specs.List.{find}
use Rattle.std.specs.Option.{option_map, unwrap_or}
use Rattle.std.specs.Str.{bytes_eq}
use Rattle.clap.specs.Walk.{Row, Text, all_of, has_row, with_values, without}
use Rattle.clap.specs.declared.builder.value_parser.Reading.{Reading}
use Rattle.clap.specs.declared.parser.matches.ValueSource.{ValueSource}
use Rattle.call_words.proofs.Words.{same_name, is_name}

abbrev values_in : Option Row → Option (List Text)
values_in = option_map (λ (r : Row). r.values)

abbrev find_row : Text → List Row → Option Row
find_row id rows = find (λ (r : Row). bytes_eq r.id id) rows

pub row_is : (id : Text) (rows : List Row) → has_row id rows ≡ is_some (all_of id rows)
row_is id [] = refl
row_is id (r ∷ rs) = go (bytes_eq r.id id) (row_is id rs)
  where
    go : (t : Bool) → has_row id rs ≡ is_some (all_of id rs) → (t || has_row id rs) ≡ is_some (values_in (cond t (Some r) (find_row id rs)))
    go true e = refl
    go false e = e

pub no_row : (id : Text) (rows : List Row) → all_of id rows ≡ None → has_row id rows ≡ false
no_row id rows e = row_is id rows ∙ ap (λ o. is_some o) e

module _ (id : Text) (how : Reading) (s : ValueSource) (vs : List Text) where
  -- values for a name stand behind those that it has
  pub with_same : (rows : List Row) → all_of id (with_values id how s vs rows) ≡ Some (unwrap_or (all_of id rows) [] ++ vs)
  with_same [] = rw (same_name id) refl
  with_same (r ∷ rs) = go (bytes_eq r.id id) refl (with_same rs)
    where
      go : (t : Bool) → bytes_eq r.id id ≡ t → all_of id (with_values id how s vs rs) ≡ Some (unwrap_or (all_of id rs) [] ++ vs)
          → all_of id (with_values id how s vs (r ∷ rs)) ≡ Some (unwrap_or (all_of id (r ∷ rs)) [] ++ vs)
      go true e rest = rw (e, e) refl
      go false e rest = rw (e, e) rest

  -- and change those of no other
  pub with_other : (m : Text) (rows : List Row) → bytes_eq id m ≡ false → all_of m (with_values id how s vs rows) ≡ all_of m rows
  with_other m [] ne = rw ne refl
  with_other m (r ∷ rs) ne = go (bytes_eq r.id id) refl (bytes_eq r.id m) refl (with_other m rs ne)
    where
      go : (t : Bool) → bytes_eq r.id id ≡ t → (u : Bool) → bytes_eq r.id m ≡ u → all_of m (with_values id how s vs rs) ≡ all_of m rs
          → all_of m (with_values id how s vs (r ∷ rs)) ≡ all_of m (r ∷ rs)
      go true e true f rest = absurd (true≢false (sym f ∙ ap (λ n. bytes_eq n m) (is_name r.id id e) ∙ ne))
      go true e false f rest = rw (e, f) refl
      go false e true f rest = rw (e, f) refl
      go false e false f rest = rw (e, f) rest

-- a name without a row has none to be taken away
pub without_none : (id : Text) (rows : List Row) → has_row id rows ≡ false → without id rows ≡ rows
without_none id [] e = refl
without_none id (r ∷ rs) e = go (bytes_eq r.id id) refl e (λ none. without_none id rs none)
  where
    go : (t : Bool) → bytes_eq r.id id ≡ t → (t || has_row id rs) ≡ false → (has_row id rs ≡ false → without id rs ≡ rs) → without id (r ∷ rs) ≡ r ∷ rs
    go true is some rest = absurd (true≢false some)
    go false is some rest = rw is (ap (λ left. r ∷ left) (rest some))
