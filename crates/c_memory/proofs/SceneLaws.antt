-- Expressions look at the blocks of the variables and at the memory, and at nothing else of a state.
use Rattle.std.proofs.Common.{◌≡◌, ℕ, refl, sym, ap, ap₂, ◌∙◌, subst, [], Option, None, option_map}
use Rattle.std.specs.Prelude.{option_and_then}
use Rattle.c_arith.specs.declared.operators.BinaryOp.TheVariants.{Add}
use Rattle.c_tree.specs.declared.expr.Expr.{Expr, fold-roll-Expr, map-Expr}
use Rattle.c_tree.specs.declared.expr.Expr.TheOpen.{Expr-F}
use Rattle.c_tree.proofs.Trees.{of_every_expr, ExprParts, expr_layer}
use Rattle.c_language.specs.declared.expr_type.ExprType.{ExprType}
use Rattle.c_meaning.specs.declared.value.Place.{Place}
use Rattle.c_meaning.specs.declared.value.Value.{Value}
use Rattle.c_meaning.specs.Memory.{Memory}
use Rattle.c_meaning.specs.Pointers.{designated, start}
use Rattle.c_meaning.specs.Values.{Types, Meant, State, meant, meant_as, meant_step, unary_value, binary_value, and_both, or_both, chosen_value, as_type, object_value, member_of, pointed_member, gives, an_item, a_part}
use Rattle.c_memory.specs.Laws.{GivesSame}

-- a state with the same blocks of variables and the same memory
abbrev pub seen : State → State
seen s = record { frame = s.frame; returned = None; memory = s.memory; origins = []; unread = [] }

-- an expression gives the same in both
pub record IsSeen (s : State) (m : Meant) : Type 0 where
  pub place : m.place s ≡ m.place (seen s)
  pub value : m.value s ≡ m.value (seen s)
  pub address : m.address s ≡ m.address (seen s)

given : (s : State) (t : ExprType) (value : State → Option Value) → value s ≡ value (seen s) → IsSeen s (gives t value)
given s t value e = record { place = refl; value = e; address = refl }

item : (s : State) (t : ExprType) (pointer : State → Option Value) → pointer s ≡ pointer (seen s) → IsSeen s (an_item t pointer)
item s t pointer e =
    record {
      place = ap (option_and_then (designated s.memory t)) e;
      value = ap (λ (o : Option Value). option_and_then (object_value t s.memory) (option_and_then (designated s.memory t) o)) e;
      address = e;
    }

a_part_seen : (s : State) (t : ExprType) (place : State → Option Place) → place s ≡ place (seen s) → IsSeen s (a_part t place)
a_part_seen s t place e = record { place = e; value = ap (option_and_then (object_value t s.memory)) e; address = ap (option_map start) e }

seen_as : (s : State) (t : ExprType) (z : Expr-F ((m : Meant) × IsSeen s m)) → IsSeen s (meant_as t (map-Expr ((m : Meant) × IsSeen s m) Meant (λ x. x.0) z))
seen_as s t (Expr-F.Constant text k v) = given s t _ refl
seen_as s t Expr-F.Null = given s t _ refl
seen_as s t Expr-F.Eof = given s t _ refl
seen_as s t (Expr-F.Variable x) = a_part_seen s t _ refl
seen_as s t (Expr-F.Unary op a) = given s t _ (ap (unary_value op a.0.type) a.1.value)
seen_as s t (Expr-F.Deref a) = item s t a.0.value a.1.value
seen_as s t (Expr-F.AddressOf a) = given s t a.0.address a.1.address
seen_as s t (Expr-F.Binary op a b) = given s t _ (ap₂ (binary_value op a.0.type b.0.type s.memory) a.1.value b.1.value)
seen_as s t (Expr-F.AndAlso a b) = given s t _ (ap₂ and_both a.1.value b.1.value)
seen_as s t (Expr-F.OrElse a b) = given s t _ (ap₂ or_both a.1.value b.1.value)
seen_as s t (Expr-F.Choose c a b) =
    given s t _ (ap₂ (chosen_value t (c.0.value s)) a.1.value b.1.value ∙ ap (λ (o : Option Value). chosen_value t o (a.0.value (seen s)) (b.0.value (seen s))) c.1.value)
seen_as s t (Expr-F.Cast k a) = given s t _ (ap (option_and_then (as_type t)) a.1.value)
seen_as s t (Expr-F.Index a i) = item s t _ (ap₂ (binary_value Add a.0.type i.0.type s.memory) a.1.value i.1.value)
seen_as s t (Expr-F.Member a m) = a_part_seen s t _ (ap (member_of m s) a.1.place)
seen_as s t (Expr-F.Arrow a m) = a_part_seen s t _ (ap (pointed_member m s) a.1.value)
seen_as s t (Expr-F.Paren a) = a.1

module _ (types : Types) (s : State) where
  abbrev Gives : Expr → Type 0
  Gives a = IsSeen s (meant types a)

  abbrev beside : ((a : Expr) × Gives a) → (m : Meant) × IsSeen s m
  beside x = (meant types x.0, x.1)

  layer_seen : (y : ExprParts Gives) → IsSeen s (meant_step types (map-Expr Expr Meant (meant types) (expr_layer Gives y)))
  layer_seen (Expr-F.Constant text k v) = seen_as s _ (Expr-F.Constant text k v)
  layer_seen Expr-F.Null = seen_as s _ Expr-F.Null
  layer_seen Expr-F.Eof = seen_as s _ Expr-F.Eof
  layer_seen (Expr-F.Variable x) = seen_as s _ (Expr-F.Variable x)
  layer_seen (Expr-F.Unary op a) = seen_as s _ (Expr-F.Unary op (beside a))
  layer_seen (Expr-F.Deref a) = seen_as s _ (Expr-F.Deref (beside a))
  layer_seen (Expr-F.AddressOf a) = seen_as s _ (Expr-F.AddressOf (beside a))
  layer_seen (Expr-F.Binary op a b) = seen_as s _ (Expr-F.Binary op (beside a) (beside b))
  layer_seen (Expr-F.AndAlso a b) = seen_as s _ (Expr-F.AndAlso (beside a) (beside b))
  layer_seen (Expr-F.OrElse a b) = seen_as s _ (Expr-F.OrElse (beside a) (beside b))
  layer_seen (Expr-F.Choose c a b) = seen_as s _ (Expr-F.Choose (beside c) (beside a) (beside b))
  layer_seen (Expr-F.Cast k a) = seen_as s _ (Expr-F.Cast k (beside a))
  layer_seen (Expr-F.Index a i) = seen_as s _ (Expr-F.Index (beside a) (beside i))
  layer_seen (Expr-F.Member a m) = seen_as s _ (Expr-F.Member (beside a) m)
  layer_seen (Expr-F.Arrow a m) = seen_as s _ (Expr-F.Arrow (beside a) m)
  layer_seen (Expr-F.Paren a) = seen_as s int_here (Expr-F.Paren (beside a))
    where
      int_here : ExprType
      int_here = (meant types a.0).type

  pub all_seen : (a : Expr) → IsSeen s (meant types a)
  all_seen = of_every_expr Gives (λ y. subst (IsSeen s) (sym (fold-roll-Expr Meant (meant_step types) (expr_layer Gives y))) (layer_seen y))

-- states with the same blocks of variables and the same memory are seen as one
one_seen : (s t : State) → s.frame ≡ t.frame → s.memory ≡ t.memory → seen s ≡ seen t
one_seen s t frame memory = ap₂ (λ (f : ℕ → Option ℕ) (m : Memory). record { frame = f; returned = None; memory = m; origins = []; unread = [] }) frame memory

pub decided : (types : Types) (e : Expr) (s t : State) → s.frame ≡ t.frame → s.memory ≡ t.memory → GivesSame types e s t
decided types e s t frame memory =
    let both = one_seen s t frame memory in
    let m = meant types e in
    record {
      place = (all_seen types s e).place ∙ ap m.place both ∙ sym (all_seen types t e).place;
      value = (all_seen types s e).value ∙ ap m.value both ∙ sym (all_seen types t e).value;
      address = (all_seen types s e).address ∙ ap m.address both ∙ sym (all_seen types t e).address;
    }
