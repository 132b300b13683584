-- One list of code after another, and what the projection makes of it.
use Rattle.std.proofs.Common.{◌≡◌, ℕ, List, [], ◌∷◌, ◌++◌, append_assoc, map, Bool, true, false, refl, sym, ap, ◌∙◌}
use Rattle.c_tree.specs.declared.statement.Statement.{Statement}
use Rattle.c_language.specs.Code.{Code, End, Opens, Plain, Fork, Loop, Leaves, Call, ◌⨟◌, leave, declared_in, in_turn, part}
use Rattle.kept_numbers.specs.Ranks.{rank}
use Rattle.projection.specs.Kept.{Kept}
use Rattle.projection.specs.Projection.{if_so}
use Rattle.simulation_places.specs.ProjectedCode.{renamed_all, project_code, IsNested}
use Rattle.simulation_places.specs.Counterparts.{ranks_of}

pub then_then : (a b c : Code) → (a ⨟ b) ⨟ c ≡ a ⨟ (b ⨟ c)
then_then End b c = refl
then_then (Opens x r) b c = ap (Opens x) (then_then r b c)
then_then (Plain i a r) b c = ap (Plain i a) (then_then r b c)
then_then (Fork i e d r) b c = ap (Fork i e d) (then_then r b c)
then_then (Loop i e d r) b c = ap (Loop i e d) (then_then r b c)
then_then (Leaves xs r) b c = ap (Leaves xs) (then_then r b c)
then_then (Call i to f args r) b c = ap (Call i to f args) (then_then r b c)

pub leave_then : (xs : List ℕ) (r k : Code) → leave xs r ⨟ k ≡ leave xs (r ⨟ k)
leave_then [] r k = refl
leave_then (x ∷ xs) r k = refl

-- statements one after another
pub in_turn-append : (xs ys : List Statement) (r : Code) → in_turn (map part (xs ++ ys)) r ≡ in_turn (map part xs) (in_turn (map part ys) r)
in_turn-append [] ys r = refl
in_turn-append (x ∷ xs) ys r = ap (part x).before (in_turn-append xs ys r)

pub declared-append : (xs ys : List Statement) → declared_in (map part (xs ++ ys)) ≡ declared_in (map part xs) ++ declared_in (map part ys)
declared-append [] ys = refl
declared-append (x ∷ xs) ys =
    ap (λ zs. (part x).declares ++ zs) (declared-append xs ys) ∙ sym (append_assoc (part x).declares (declared_in (map part xs)) (declared_in (map part ys)))

module _ (k : Kept ℕ) where
  pub renamed_all-append : (xs ys : List ℕ) → renamed_all k (ranks_of k) (xs ++ ys) ≡ renamed_all k (ranks_of k) xs ++ renamed_all k (ranks_of k) ys
  renamed_all-append [] ys = refl
  renamed_all-append (x ∷ xs) ys =
      ap (λ zs. if_so (k.variable x) (rank k.variable x ∷ zs) zs) (renamed_all-append xs ys) ∙ by_test (k.variable x) (rank k.variable x) (renamed_all k (ranks_of k) xs) (renamed_all k (ranks_of k) ys)
    where
      by_test : (b : Bool) (n : ℕ) (ms ns : List ℕ) → if_so b (n ∷ (ms ++ ns)) (ms ++ ns) ≡ if_so b (n ∷ ms) ms ++ ns
      by_test true n ms ns = refl
      by_test false n ms ns = refl

  pub project_leave : (xs : List ℕ) (r : Code) → project_code k (ranks_of k) (leave xs r) ≡ leave (renamed_all k (ranks_of k) xs) (project_code k (ranks_of k) r)
  project_leave [] r = refl
  project_leave (x ∷ xs) r = refl

  pub nested_then : (a b : Code) → IsNested k (ranks_of k) a → IsNested k (ranks_of k) b → IsNested k (ranks_of k) (a ⨟ b)
  nested_then End b h n = n
  nested_then (Opens x r) b h n = nested_then r b h n
  nested_then (Plain i a r) b h n = nested_then r b h n
  nested_then (Fork i e c r) b h n = (h.0, (h.1.0, nested_then r b h.1.1 n))
  nested_then (Loop i e c r) b h n = (h.0, (h.1.0, nested_then r b h.1.1 n))
  nested_then (Leaves xs r) b h n = nested_then r b h n
  nested_then (Call i to f args r) b h n = nested_then r b h n

  pub nested_leave : (xs : List ℕ) (r : Code) → IsNested k (ranks_of k) r → IsNested k (ranks_of k) (leave xs r)
  nested_leave [] r h = h
  nested_leave (x ∷ xs) r h = h
