-- What is made of a value for the target of a call stores at most: it begins and frees no block, takes nothing from the input, and returns
-- nothing.
use Rattle.std.proofs.Common.{◌≡◌, Option, Some, None, refl, subst}
use Rattle.c_language.proofs.Options.{some_same}
use Rattle.c_tree.specs.declared.statement.Target.{Target}
use Rattle.c_tree.specs.declared.statement.Target.TheVariants as target
use Rattle.c_language.specs.declared.expr_type.ExprType.{ExprType}
use Rattle.c_meaning.specs.declared.value.Place.{Place}
use Rattle.c_meaning.specs.declared.value.Value.{Value}
use Rattle.c_meaning.specs.Values.{Types, State, variable_place, type_of, place}
use Rattle.c_meaning.specs.Acts.{Made, writable, assigned, given}
use Rattle.run_facts.proofs.AssignedValues.{assigned_there}

pub record OnlyStores (x : Made) : Type 0 where
  pub none_begun : x.begun ≡ None
  pub none_freed : x.freed ≡ None
  pub none_taken : x.taken ≡ 0
  pub none_returned : x.returned ≡ None

assigned_stores : (t : ExprType) (o : Option Place) (v : Option Value) (x : Made) → assigned t o v ≡ Some x → OnlyStores x
assigned_stores t o v x e =
    subst OnlyStores (assigned_there t o v x e).same (record { none_begun = refl; none_freed = refl; none_taken = refl; none_returned = refl })

pub given_stores : (types : Types) (s : State) (to : Target) (v : Value) (x : Made) → given types to v s ≡ Some x → OnlyStores x
given_stores types s target.None v x e =
    subst OnlyStores (some_same e) (record { none_begun = refl; none_freed = refl; none_taken = refl; none_returned = refl })
given_stores types s (target.Place a) v x e = assigned_stores (type_of types a) (writable s (place types a s)) (Some v) x e
given_stores types s (target.Declared y) v x e = assigned_stores (types.typing.variable y) (writable s (variable_place y s)) (Some v) x e
