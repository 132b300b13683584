use Rattle.c_scope_laws.proofs.TreeWalking.{all_stay}
use Rattle.c_scope_laws.proofs.bodies_thin.Goals as goal

pub returns : goal.returns
returns c = λ k functions raw other here there mine yours scope next xs ys zs texts ids follows thin is. all_stay k raw other texts functions ids here there mine yours thin next follows zs is
