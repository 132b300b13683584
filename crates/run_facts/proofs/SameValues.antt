-- What an expression gives depends on no cells but those that it reads.
use Rattle.std.proofs.Common.{◌≡◌, List, [], ◌∷◌, ◌++◌, Option, Some, None, Bool, true, false, inl, refl, sym, ap, ap₂, ◌∙◌, subst}
use Rattle.std.specs.Prelude.{option_map, option_and_then, if◌then◌else◌}
use Rattle.c_arith.specs.declared.operators.BinaryOp.{BinaryOp}
use Rattle.c_arith.specs.declared.operators.BinaryOp.TheVariants.{Add}
use Rattle.c_arith.specs.declared.int_type.IntType.{IntType}
use Rattle.c_tree.specs.declared.expr.Expr.{Expr, map-Expr, roll-Expr, fold-roll-Expr}
use Rattle.c_tree.specs.declared.expr.Expr.TheOpen.{Expr-F}
use Rattle.c_tree.proofs.Trees.{ExprParts, expr_layer, of_every_expr}
use Rattle.c_language.specs.declared.expr_type.ExprType.{ExprType}
use Rattle.c_language.specs.ConstantEvaluation.{is_zero, operand_type}
use Rattle.c_language.specs.DeclaredTypes.{integer}
use Rattle.c_language.specs.ExprTypes.{is_array, is_pointer, value_type}
use Rattle.c_language.specs.TreeTypes.{int_type}
use Rattle.c_meaning.specs.declared.value.Hop.TheVariants as hop
use Rattle.c_meaning.specs.declared.value.Place.{Place}
use Rattle.c_meaning.specs.declared.value.Value.{Value}
use Rattle.c_meaning.specs.Memory.{read}
use Rattle.c_meaning.specs.Pointers.{inside, start, if_typed, designated}
use Rattle.c_meaning.specs.Values.{Types, State, Meant, whole, tested, as_type, unary_value, at_operands, both_values, binary_value, and_both, or_both, chosen_value, object_value, owner_of, meant_step, meant, eval, place, eval_all, beside}
use Rattle.dep_model.proofs.Membership.{IsIn, in_first, in_second}
use Rattle.run_facts.specs.ReadCells.{Reads, Watched, object_read, chosen_read, watched_step, watched, value_read, left_read, all_read}
use Rattle.run_facts.specs.SameOutcomes.{SameButCells}
use Rattle.run_facts.proofs.SameMemories.{typed_same, designated_same, pointers_same, left_same, right_same}

module _ (types : Types) where
  -- ---- an expression with what it reads means what it means

  abbrev MeansIt : Expr → Type 0
  MeansIt e = (watched types e).meant ≡ meant types e

  abbrev step_here : Expr-F Expr → Watched
  step_here z = watched_step types (map-Expr Expr Watched (watched types) z)

  abbrev step_there : Expr-F Expr → Meant
  step_there z = meant_step types (map-Expr Expr Meant (meant types) z)

  meant_layer : (y : ExprParts MeansIt) → (step_here (expr_layer MeansIt y)).meant ≡ step_there (expr_layer MeansIt y)
  meant_layer (Expr-F.Constant text k v) = refl
  meant_layer Expr-F.Null = refl
  meant_layer Expr-F.Eof = refl
  meant_layer (Expr-F.Variable x) = refl
  meant_layer (Expr-F.Unary op a) = ap (λ k. meant_step types (Expr-F.Unary op k)) a.1
  meant_layer (Expr-F.Deref a) = ap (λ k. meant_step types (Expr-F.Deref k)) a.1
  meant_layer (Expr-F.AddressOf a) = ap (λ k. meant_step types (Expr-F.AddressOf k)) a.1
  meant_layer (Expr-F.Binary op a b) = ap₂ (λ k l. meant_step types (Expr-F.Binary op k l)) a.1 b.1
  meant_layer (Expr-F.AndAlso a b) = ap₂ (λ k l. meant_step types (Expr-F.AndAlso k l)) a.1 b.1
  meant_layer (Expr-F.OrElse a b) = ap₂ (λ k l. meant_step types (Expr-F.OrElse k l)) a.1 b.1
  meant_layer (Expr-F.Choose c a b) =
      ap (λ k. meant_step types (Expr-F.Choose k (watched types a.0).meant (watched types b.0).meant)) c.1 ∙ ap₂ (λ k l. meant_step types (Expr-F.Choose (meant types c.0) k l)) a.1 b.1
  meant_layer (Expr-F.Cast t a) = ap (λ k. meant_step types (Expr-F.Cast t k)) a.1
  meant_layer (Expr-F.Index a i) = ap₂ (λ k l. meant_step types (Expr-F.Index k l)) a.1 i.1
  meant_layer (Expr-F.Member a m) = ap (λ k. meant_step types (Expr-F.Member k m)) a.1
  meant_layer (Expr-F.Arrow a m) = ap (λ k. meant_step types (Expr-F.Arrow k m)) a.1
  meant_layer (Expr-F.Paren a) = ap (λ k. meant_step types (Expr-F.Paren k)) a.1

  meant_rolled : (z : Expr-F Expr) → (step_here z).meant ≡ step_there z → MeansIt (roll-Expr z)
  meant_rolled z h =
      ap (λ (w : Watched). w.meant) (fold-roll-Expr Watched (watched_step types) z) ∙ (h ∙ sym (fold-roll-Expr Meant (meant_step types) z))

  pub means_it : (e : Expr) → MeansIt e
  means_it = of_every_expr MeansIt (λ y. meant_rolled (expr_layer MeansIt y) (meant_layer y))

  -- ---- in two states

  module _ (s t : State) (same : SameButCells s t) where
    -- these cells hold the same
    abbrev pub Same : List Place → Type 0
    Same qs = (q : Place) → IsIn qs q → read s.memory q ≡ read t.memory q

    first_same : (qs rs : List Place) → Same (qs ++ rs) → Same qs
    first_same qs rs h q is = h q (in_first qs rs q is)

    second_same : (qs rs : List Place) → Same (qs ++ rs) → Same rs
    second_same qs rs h q is = h q (in_second qs rs q is)

    -- an expression gives the same where what it reads holds the same
    record Alike (w : Watched) : Type 0 where
      places : Same (w.found s) → w.meant.place s ≡ w.meant.place t
      addresses : Same (w.found s) → w.meant.address s ≡ w.meant.address t
      values : Same (w.read s) → w.meant.value s ≡ w.meant.value t

    -- ---- operators

    operands_same : (a b : Bool) (op : BinaryOp) (k : IntType) (v w : Value) → at_operands a b op k s.memory v w ≡ at_operands a b op k t.memory v w
    operands_same true true op k v w = pointers_same s.memory t.memory same.structs_are same.blocks_are op v w
    operands_same true false op k v w = left_same s.memory t.memory same.structs_are same.blocks_are op v w
    operands_same false true op k v w = right_same s.memory t.memory same.structs_are same.blocks_are op v w
    operands_same false false op k v w = refl

    both_same : (a b : Bool) (op : BinaryOp) (k : IntType) (o u : Option Value) → both_values (at_operands a b op k s.memory) o u ≡ both_values (at_operands a b op k t.memory) o u
    both_same a b op k None u = refl
    both_same a b op k (Some v) None = refl
    both_same a b op k (Some v) (Some w) = operands_same a b op k v w

    pub binary_same : (op : BinaryOp) (j k : ExprType) (a b c d : Option Value) → a ≡ c → b ≡ d → binary_value op j k s.memory a b ≡ binary_value op j k t.memory c d
    binary_same op j k a b c d p q =
        both_same (is_pointer (value_type j)) (is_pointer (value_type k)) op (operand_type op (int_type j) (int_type k)) a b ∙ ap₂ (binary_value op j k t.memory) p q

    -- what decides whether more is evaluated
    abbrev Later : (Option Value → Option Value → Option Value) → Type 0
    Later f = (v : Value) (b d : Option Value) → (is_zero (tested v) ≡ false → b ≡ d) → f (Some v) b ≡ f (Some v) d

    -- ---- objects

    one_object : (array : Bool) (q : Place) → Same (if array then [] else q ∷ []) → (if array then Some (start q) else read s.memory q) ≡ (if array then Some (start q) else read t.memory q)
    one_object true q h = refl
    one_object false q h = h q (inl refl)

    object_same : (k : ExprType) (o u : Option Place) → o ≡ u → Same (object_read k o) → option_and_then (object_value k s.memory) o ≡ option_and_then (object_value k t.memory) u
    object_same k None u e h = ap (option_and_then (object_value k t.memory)) e
    object_same k (Some q) u e h = one_object (is_array k) q h ∙ ap (option_and_then (object_value k t.memory)) e

    -- an object that is found by reading these
    an_object_alike : (found : Reads) (k : ExprType) (where_ : State → Option Place) (address : State → Option Value) → (Same (found s) → where_ s ≡ where_ t) → (Same (found s) → address s ≡ address t) → Alike (record { meant = record { type = k; place = where_; value = λ z. option_and_then (object_value k z.memory) (where_ z); address = address }; found = found; read = λ z. found z ++ object_read k (where_ z) })
    an_object_alike found k where_ address p a = record {
      places = p;
      addresses = a;
      values = λ h. object_same k (where_ s) (where_ t) (p (first_same (found s) (object_read k (where_ s)) h)) (second_same (found s) (object_read k (where_ s)) h);
    }

    pointed_places : (k : ExprType) (o u : Option Value) → o ≡ u → option_and_then (designated s.memory k) o ≡ option_and_then (designated t.memory k) u
    pointed_places k None u e = ap (option_and_then (designated t.memory k)) e
    pointed_places k (Some v) u e = designated_same s.memory t.memory same.structs_are same.blocks_are k v ∙ ap (option_and_then (designated t.memory k)) e

    typed_places : (k : ExprType) (o u : Option Place) → o ≡ u → option_and_then (if_typed s.memory k) o ≡ option_and_then (if_typed t.memory k) u
    typed_places k None u e = ap (option_and_then (if_typed t.memory k)) e
    typed_places k (Some q) u e = typed_same s.memory t.memory same.structs_are same.blocks_are k q ∙ ap (option_and_then (if_typed t.memory k)) e

    -- what is found through a pointer
    item_alike : (found : Reads) (k : ExprType) (pointer : State → Option Value) → (Same (found s) → pointer s ≡ pointer t) → Alike (record { meant = record { type = k; place = λ z. option_and_then (designated z.memory k) (pointer z); value = λ z. option_and_then (object_value k z.memory) (option_and_then (designated z.memory k) (pointer z)); address = pointer }; found = found; read = λ z. found z ++ object_read k (option_and_then (designated z.memory k) (pointer z)) })
    item_alike found k pointer p =
        an_object_alike found k (λ z. option_and_then (designated z.memory k) (pointer z)) pointer (λ h. pointed_places k (pointer s) (pointer t) (p h)) p

    -- an object that is no element
    part_alike : (found : Reads) (k : ExprType) (where_ : State → Option Place) → (Same (found s) → where_ s ≡ where_ t) → Alike (record { meant = record { type = k; place = where_; value = λ z. option_and_then (object_value k z.memory) (where_ z); address = λ z. option_map start (where_ z) }; found = found; read = λ z. found z ++ object_read k (where_ z) })
    part_alike found k where_ p = an_object_alike found k where_ (λ z. option_map start (where_ z)) p (λ h. ap (option_map start) (p h))

    -- what gives a value alone
    value_alike : (k : ExprType) (value : State → Option Value) (reads : Reads) → (Same (reads s) → value s ≡ value t) → Alike (record { meant = record { type = k; place = λ z. None; value = value; address = λ z. None }; found = λ z. []; read = reads })
    value_alike k value reads h = record { places = λ g. refl; addresses = λ g. refl; values = h }

    -- ---- tests that decide what is evaluated

    and_there : (v : Value) (b d : Option Value) (zero_ : Bool) → is_zero (tested v) ≡ zero_ → (qs : List Place) → Same (if zero_ then [] else qs) → (Same qs → b ≡ d) → and_both (Some v) b ≡ and_both (Some v) d
    and_there v b d true e qs h k = rw e refl
    and_there v b d false e qs h k = ap (and_both (Some v)) (k h)

    and_same : (a c b d : Option Value) (qs : List Place) → a ≡ c → Same (chosen_read a qs []) → (Same qs → b ≡ d) → and_both a b ≡ and_both c d
    and_same None c b d qs e h k = ap (λ x. and_both x d) e
    and_same (Some v) c b d qs e h k = and_there v b d (is_zero (tested v)) refl qs h k ∙ ap (λ x. and_both x d) e

    or_there : (v : Value) (b d : Option Value) (zero_ : Bool) → is_zero (tested v) ≡ zero_ → (qs : List Place) → Same (if zero_ then qs else []) → (Same qs → b ≡ d) → or_both (Some v) b ≡ or_both (Some v) d
    or_there v b d true e qs h k = ap (or_both (Some v)) (k h)
    or_there v b d false e qs h k = rw e refl

    or_same : (a c b d : Option Value) (qs : List Place) → a ≡ c → Same (chosen_read a [] qs) → (Same qs → b ≡ d) → or_both a b ≡ or_both c d
    or_same None c b d qs e h k = ap (λ x. or_both x d) e
    or_same (Some v) c b d qs e h k = or_there v b d (is_zero (tested v)) refl qs h k ∙ ap (λ x. or_both x d) e

    choice_there : (k : ExprType) (zero_ : Bool) (a b c d : Option Value) (qs rs : List Place) → Same (if zero_ then rs else qs) → (Same qs → a ≡ c) → (Same rs → b ≡ d) → option_and_then (as_type k) (if zero_ then b else a) ≡ option_and_then (as_type k) (if zero_ then d else c)
    choice_there k true a b c d qs rs h f g = ap (option_and_then (as_type k)) (g h)
    choice_there k false a b c d qs rs h f g = ap (option_and_then (as_type k)) (f h)

    choice_same : (k : ExprType) (o u a b c d : Option Value) (qs rs : List Place) → o ≡ u → Same (chosen_read o qs rs) → (Same qs → a ≡ c) → (Same rs → b ≡ d) → chosen_value k o a b ≡ chosen_value k u c d
    choice_same k None u a b c d qs rs e h f g = ap (λ x. chosen_value k x c d) e
    choice_same k (Some v) u a b c d qs rs e h f g =
        choice_there k (is_zero (tested v)) a b c d qs rs h f g ∙ ap (λ x. chosen_value k x c d) e

    -- ---- forms

    abbrev IsAlike : Expr → Type 0
    IsAlike e = Alike (watched types e)

    alike_layer : (y : ExprParts IsAlike) → Alike (step_here (expr_layer IsAlike y))
    alike_layer (Expr-F.Constant text k v) = value_alike _ _ _ (λ h. refl)
    alike_layer Expr-F.Null = value_alike _ _ _ (λ h. refl)
    alike_layer Expr-F.Eof = value_alike _ _ _ (λ h. refl)
    alike_layer (Expr-F.Variable x) = part_alike _ _ _ (λ h. ap (option_map whole) (same.frames_are x))
    alike_layer (Expr-F.Unary op a) = value_alike _ _ _ (λ h. ap (unary_value op (watched types a.0).meant.type) (a.1.values h))
    alike_layer (Expr-F.Deref a) = item_alike _ _ _ a.1.values
    alike_layer (Expr-F.AddressOf a) = value_alike _ _ _ a.1.addresses
    alike_layer (Expr-F.Binary op a b) =
        let l = watched types a.0 in
        let r = watched types b.0 in
        value_alike _ _ _ (λ h. binary_same op l.meant.type r.meant.type _ _ _ _ (a.1.values (first_same (l.read s) (r.read s) h)) (b.1.values (second_same (l.read s) (r.read s) h)))
    alike_layer (Expr-F.AndAlso a b) =
        let l = watched types a.0 in
        let r = watched types b.0 in
        let more = chosen_read (l.meant.value s) (r.read s) [] in
        value_alike _ _ _ (λ h. and_same _ _ _ _ (r.read s) (a.1.values (first_same (l.read s) more h)) (second_same (l.read s) more h) b.1.values)
    alike_layer (Expr-F.OrElse a b) =
        let l = watched types a.0 in
        let r = watched types b.0 in
        let more = chosen_read (l.meant.value s) [] (r.read s) in
        value_alike _ _ _ (λ h. or_same _ _ _ _ (r.read s) (a.1.values (first_same (l.read s) more h)) (second_same (l.read s) more h) b.1.values)
    alike_layer (Expr-F.Choose c a b) =
        let o = watched types c.0 in
        let l = watched types a.0 in
        let r = watched types b.0 in
        let more = chosen_read (o.meant.value s) (l.read s) (r.read s) in
        value_alike _ _ _ (λ h. choice_same _ _ _ _ _ _ _ (l.read s) (r.read s) (c.1.values (first_same (o.read s) more h)) (second_same (o.read s) more h) a.1.values b.1.values)
    alike_layer (Expr-F.Cast k a) = value_alike _ _ _ (λ h. ap (option_and_then (as_type (integer k))) (a.1.values h))
    alike_layer (Expr-F.Index a i) =
        let l = watched types a.0 in
        let r = watched types i.0 in
        item_alike _ _ _ (λ h. binary_same Add l.meant.type r.meant.type _ _ _ _ (a.1.values (first_same (l.read s) (r.read s) h)) (i.1.values (second_same (l.read s) (r.read s) h)))
    alike_layer (Expr-F.Member a m) =
        part_alike _ _ _ (λ h. ap (option_map (inside (hop.Member m.index))) (typed_places (owner_of m) _ _ (a.1.places h)))
    alike_layer (Expr-F.Arrow a m) =
        part_alike _ _ _ (λ h. ap (option_map (inside (hop.Member m.index))) (pointed_places (owner_of m) _ _ (a.1.values h)))
    alike_layer (Expr-F.Paren a) = a.1

    alike_rolled : (z : Expr-F Expr) → Alike (step_here z) → IsAlike (roll-Expr z)
    alike_rolled z h = subst Alike (sym (fold-roll-Expr Watched (watched_step types) z)) h

    alike : (e : Expr) → IsAlike e
    alike = of_every_expr IsAlike (λ y. alike_rolled (expr_layer IsAlike y) (alike_layer y))

    -- ---- expressions

    pub value_same : (e : Expr) → Same (value_read types e s) → eval types e s ≡ eval types e t
    value_same e h =
        sym (ap (λ (m : Meant). m.value s) (means_it e)) ∙ ((alike e).values h ∙ ap (λ (m : Meant). m.value t) (means_it e))

    pub place_same : (e : Expr) → Same (left_read types e s) → place types e s ≡ place types e t
    place_same e h =
        sym (ap (λ (m : Meant). m.place s) (means_it e)) ∙ ((alike e).places h ∙ ap (λ (m : Meant). m.place t) (means_it e))

    pub all_same : (es : List Expr) → Same (all_read types es s) → eval_all types es s ≡ eval_all types es t
    all_same [] h = refl
    all_same (e ∷ es) h =
        ap₂ beside (value_same e (first_same (value_read types e s) (all_read types es s) h)) (all_same es (second_same (value_read types e s) (all_read types es s) h))
