-- What is true of each member of a list is true of all.
use Rattle.std.proofs.Common.{List}
use Rattle.std.specs.Prelude.{All, Contains}
use Rattle.std.proofs.lemmas.List.Elements.{All-weaker, All-contains_itself}
use Rattle.dep_model.proofs.Membership.{IsIn, in_of_contains}

pub all_from : {A : Type 0} (P : A → Type 0) (xs : List A) → ((x : A) → IsIn xs x → P x) → All P xs
all_from P xs h = All-weaker (Contains xs) P (λ x c. h x (in_of_contains xs x c)) xs (All-contains_itself xs)
