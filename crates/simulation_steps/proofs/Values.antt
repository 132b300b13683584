-- What an expression comes to in a program and in its slice.
use Rattle.std.proofs.Common.{◌≡◌, ℕ, List, [], ◌∷◌, ◌++◌, map, Option, Some, Bool, true, false, inl, inr, refl, sym, ap, ap₂, ◌∙◌, subst, eq-eqb}
use Rattle.std.specs.Prelude.{◌||◌, option_map, option_and_then, if◌then◌else◌}
use Rattle.std.proofs.lemmas.Bool.{or_left, or_right}
use Rattle.std.proofs.lemmas.List.Elements.{All-contains}
use Rattle.c_arith.specs.declared.operators.BinaryOp.{BinaryOp}
use Rattle.c_arith.specs.declared.operators.BinaryOp.TheVariants.{Add}
use Rattle.c_arith.specs.IntType.{promote}
use Rattle.c_arith.specs.Operators.{unary_type}
use Rattle.c_tree.specs.declared.expr.MemberId.{MemberId}
use Rattle.c_tree.specs.declared.expr.Expr.{Expr, map-Expr, roll-Expr, fold-roll-Expr}
use Rattle.c_tree.specs.declared.expr.Expr.TheOpen.{Expr-F}
use Rattle.c_tree.proofs.Trees.{ExprParts, expr_layer, of_every_expr}
use Rattle.c_language.specs.declared.expr_type.ExprType.{ExprType}
use Rattle.c_language.specs.ConstantEvaluation.{is_zero}
use Rattle.c_language.specs.DeclaredTypes.{integer, pointer_to}
use Rattle.c_language.specs.ExprTypes.{is_array}
use Rattle.c_language.specs.Names.{names_step, names as named_in}
use Rattle.c_language.specs.TreeTypes.{int_type, binary_tree_type, chosen_type, pointee}
use Rattle.c_meaning.specs.declared.value.Hop.TheVariants as hop
use Rattle.c_meaning.specs.declared.value.Place.{Place}
use Rattle.c_meaning.specs.declared.value.Value.{Value}
use Rattle.c_meaning.specs.Pointers.{inside, start, if_typed, designated}
use Rattle.c_meaning.specs.Values.{Types, State, Meant, whole, tested, variable_place, as_type, unary_value, binary_value, and_both, or_both, chosen_value, gives, object_value, an_object, an_item, a_part, indexed, owner_of, member_of, pointed_member, meant_step, meant, eval, place, eval_all}
use Rattle.dep_model.proofs.Membership.{IsIn, in_first, in_second, contains_of_in}
use Rattle.own_words.proofs.Exprs.{renamed_layer, fold_renamed}
use Rattle.projection.specs.Renumbering.{renamed}
use Rattle.run_facts.specs.ReadCells.{Reads, Watched, object_read, chosen_read, watched_step, watched, value_read, left_read, all_read}
use Rattle.run_facts.proofs.SameValues.{means_it}
use Rattle.simulation.specs.Renaming.{World, AlikeValue, number, null, Names, BothStand, neither, both}
use Rattle.simulation_steps.proofs.Outcomes.{ComesToo, undefined, comes, AlikeList, nil, AlikePlace, HoldsAlike, HoldAlike, NamesStay, Staying, StatesStand}
use Rattle.simulation_steps.proofs.ValuesTogether.{ValuesComeTogether}
use Rattle.simulation_steps.proofs.StandingObjects.{then_too, map_too, beside_too, typed_too, inside_too, designated_too, start_too, object_too}
use Rattle.simulation_steps.proofs.Operators.{converted_too, unary_too, and_too, or_too, chosen_too, binary_too}

module _ (names : Names) (w : World) (types there : Types) (s t : State) (stand : StatesStand names w types there s t) where
  abbrev f : ℕ → ℕ
  f = names.variable

  -- these cells hold alike values
  abbrev pub Hold : List Place → Type 0
  Hold qs = (q : Place) → IsIn qs q → HoldsAlike w s t q

  pub first_hold : (qs rs : List Place) → Hold (qs ++ rs) → Hold qs
  first_hold qs rs h q is = h q (in_first qs rs q is)

  pub second_hold : (qs rs : List Place) → Hold (qs ++ rs) → Hold rs
  second_hold qs rs h q is = h q (in_second qs rs q is)

  abbrev AlikeValues : Option Value → Option Value → Type 0
  AlikeValues = ComesToo (AlikeValue w)

  abbrev AlikePlaces : Option Place → Option Place → Type 0
  AlikePlaces = ComesToo (AlikePlace w)

  -- an expression comes to alike values and places, where what it reads holds alike values
  record ComesAlike (e : Watched) (g : Meant) : Type 0 where
    type_is : g.type ≡ e.meant.type
    places : Hold (e.found s) → AlikePlaces (e.meant.place s) (g.place t)
    addresses : Hold (e.found s) → AlikeValues (e.meant.address s) (g.address t)
    values : Hold (e.read s) → AlikeValues (e.meant.value s) (g.value t)

  -- ---- what gives a value alone, and what designates an object

  value_alike : (k j : ExprType) (here over_ : State → Option Value) (reads : Reads) → j ≡ k → (Hold (reads s) → AlikeValues (here s) (over_ t)) → ComesAlike (record { meant = gives k here; found = λ z. []; read = reads }) (gives j over_)
  value_alike k j here over_ reads e h = record { type_is = e; places = λ g. undefined; addresses = λ g. undefined; values = h }

  one_object : (array : Bool) (q : Place) → Hold (if array then [] else q ∷ []) → array ≡ false → HoldsAlike w s t q
  one_object true q h = λ e. cc
  one_object false q h = λ e. h q (inl refl)

  object_alike : (k : ExprType) (o u : Option Place) → AlikePlaces o u → Hold (object_read k o) → AlikeValues (option_and_then (object_value k s.memory) o) (option_and_then (object_value k t.memory) u)
  object_alike k o u undefined h = undefined
  object_alike k o u (comes {a = q} {b = r} e) h = object_too names w s t stand.blocks (is_array k) q r e (one_object (is_array k) q h)

  an_object_alike : (k j : ExprType) (found : Reads) (here over_ : State → Option Place) (address more : State → Option Value) → j ≡ k → (Hold (found s) → AlikePlaces (here s) (over_ t)) → (Hold (found s) → AlikeValues (address s) (more t)) → ComesAlike (record { meant = an_object k here address; found = found; read = λ z. found z ++ object_read k (here z) }) (an_object j over_ more)
  an_object_alike k j found here over_ address more e p a =
      subst (λ i. ComesAlike (record { meant = an_object k here address; found = found; read = λ z. found z ++ object_read k (here z) }) (an_object i over_ more)) (sym e) (record {
        type_is = refl;
        places = p;
        addresses = a;
        values = λ h. object_alike k (here s) (over_ t) (p (first_hold (found s) (object_read k (here s)) h)) (second_hold (found s) (object_read k (here s)) h);
      })

  -- what is found through a pointer
  item_alike : (k j : ExprType) (found : Reads) (here over_ : State → Option Value) → j ≡ k → (Hold (found s) → AlikeValues (here s) (over_ t)) → ComesAlike (record { meant = an_item k here; found = found; read = λ z. found z ++ object_read k (option_and_then (designated z.memory k) (here z)) }) (an_item j over_)
  item_alike k j found here over_ e p =
      an_object_alike k j found (λ z. option_and_then (designated z.memory k) (here z)) (λ z. option_and_then (designated z.memory j) (over_ z)) here over_ e (λ h. subst (λ i. AlikePlaces (option_and_then (designated s.memory k) (here s)) (option_and_then (designated t.memory i) (over_ t))) (sym e) (then_too (AlikeValue w) (AlikePlace w) (designated s.memory k) (designated t.memory k) (here s) (over_ t) (p h) (designated_too names w s t stand.blocks k))) p

  -- an object that is no element
  part_alike : (k j : ExprType) (found : Reads) (here over_ : State → Option Place) → j ≡ k → (Hold (found s) → AlikePlaces (here s) (over_ t)) → ComesAlike (record { meant = a_part k here; found = found; read = λ z. found z ++ object_read k (here z) }) (a_part j over_)
  part_alike k j found here over_ e p =
      an_object_alike k j found here over_ (λ z. option_map start (here z)) (λ z. option_map start (over_ z)) e p (λ h. map_too (AlikePlace w) (AlikeValue w) start start (here s) (over_ t) (p h) (start_too w))

  -- ---- variables and members

  whole_alike : (o u : Option ℕ) → BothStand names w o u → AlikePlaces (option_map whole o) (option_map whole u)
  whole_alike o u neither = undefined
  whole_alike o u (both e) = comes (record { stands = e; path_is = refl })

  pub variable_alike : (x : ℕ) → names.stays x ≡ true → AlikePlaces (variable_place x s) (variable_place (f x) t)
  variable_alike x stays = whole_alike (s.frame x) (t.frame (f x)) (stand.frames x stays)

  member_alike : (k : MemberId) (o u : Option Place) → AlikePlaces o u → AlikePlaces (member_of k s o) (member_of k t u)
  member_alike k o u h =
      map_too (AlikePlace w) (AlikePlace w) (inside (hop.Member k.index)) (inside (hop.Member k.index)) _ _ (then_too (AlikePlace w) (AlikePlace w) (if_typed s.memory (owner_of k)) (if_typed t.memory (owner_of k)) o u h (typed_too names w s t stand.blocks (owner_of k))) (inside_too w (hop.Member k.index))

  pointed_alike : (k : MemberId) (o u : Option Value) → AlikeValues o u → AlikePlaces (pointed_member k s o) (pointed_member k t u)
  pointed_alike k o u h =
      map_too (AlikePlace w) (AlikePlace w) (inside (hop.Member k.index)) (inside (hop.Member k.index)) _ _ (then_too (AlikeValue w) (AlikePlace w) (designated s.memory (owner_of k)) (designated t.memory (owner_of k)) o u h (designated_too names w s t stand.blocks (owner_of k))) (inside_too w (hop.Member k.index))

  -- ---- operators

  pub binary_alike : (op : BinaryOp) (j k i l : ExprType) (a b c d : Option Value) → i ≡ j → l ≡ k → AlikeValues a c → AlikeValues b d → AlikeValues (binary_value op j k s.memory a b) (binary_value op i l t.memory c d)
  binary_alike op j k i l a b c d p q h e =
      subst (λ x. AlikeValues (binary_value op j k s.memory a b) (binary_value op x l t.memory c d)) (sym p) (subst (λ y. AlikeValues (binary_value op j k s.memory a b) (binary_value op j y t.memory c d)) (sym q) (binary_too names w s t stand.blocks op j k a b c d h e))

  -- what is read where a test has a value
  where_not : (o : Option Value) (u : Value) (qs rs : List Place) → o ≡ Some u → is_zero (tested u) ≡ false → Hold (chosen_read o qs rs) → Hold qs
  where_not o u qs rs e z h q is = h q (subst (λ x. IsIn (chosen_read x qs rs) q) (sym e) (subst (λ b. IsIn (if b then rs else qs) q) (sym z) is))

  where_zero : (o : Option Value) (u : Value) (qs rs : List Place) → o ≡ Some u → is_zero (tested u) ≡ true → Hold (chosen_read o qs rs) → Hold rs
  where_zero o u qs rs e z h q is = h q (subst (λ x. IsIn (chosen_read x qs rs) q) (sym e) (subst (λ b. IsIn (if b then rs else qs) q) (sym z) is))

  chosen_alike : (j k : ExprType) (o a b p c d : Option Value) → k ≡ j → AlikeValues (chosen_value j o a b) (chosen_value j p c d) → AlikeValues (chosen_value j o a b) (chosen_value k p c d)
  chosen_alike j k o a b p c d e h = subst (λ i. AlikeValues (chosen_value j o a b) (chosen_value i p c d)) (sym e) h

  -- ---- forms

  abbrev IsAlike : Expr → Type 0
  IsAlike e = Staying names e → ComesAlike (watched types e) (meant there (renamed f e))

  abbrev step_here : Expr-F Expr → Watched
  step_here z = watched_step types (map-Expr Expr Watched (watched types) z)

  abbrev step_there : Expr-F Expr → Meant
  step_there z = meant_step there (map-Expr Expr Meant (meant there) (renamed_layer f (map-Expr Expr Expr (renamed f) z)))

  abbrev layer_named : Expr-F Expr → ℕ → Bool
  layer_named z = names_step (map-Expr Expr (ℕ → Bool) named_in z)

  pub left_stays : (a b : ℕ → Bool) → NamesStay names (λ x. a x || b x) → NamesStay names a
  left_stays a b h x n = h x (or_left (a x) (b x) n)

  pub right_stays : (a b : ℕ → Bool) → NamesStay names (λ x. a x || b x) → NamesStay names b
  right_stays a b h x n = h x (or_right (a x) (b x) n)

  alike_layer : (y : ExprParts IsAlike) → NamesStay names (layer_named (expr_layer IsAlike y)) → ComesAlike (step_here (expr_layer IsAlike y)) (step_there (expr_layer IsAlike y))
  alike_layer (Expr-F.Constant text k v) st = value_alike _ _ _ _ _ refl (λ h. comes number)
  alike_layer Expr-F.Null st = value_alike _ _ _ _ _ refl (λ h. comes null)
  alike_layer Expr-F.Eof st = value_alike _ _ _ _ _ refl (λ h. comes number)
  alike_layer (Expr-F.Variable x) st =
      let stays = st x (eq-eqb x x refl) in
      part_alike _ _ _ (variable_place x) (variable_place (f x)) (stand.types_are.variables x stays) (λ h. variable_alike x stays)
  alike_layer (Expr-F.Unary op a) st =
      let k = a.1 st in
      let l = watched types a.0 in
      let g = meant there (renamed f a.0) in
      value_alike _ _ _ (λ z. unary_value op g.type (g.value z)) _ (ap (λ i. integer (unary_type op (promote (int_type i)))) k.type_is) (λ h. subst (λ i. AlikeValues (unary_value op l.meant.type (l.meant.value s)) (unary_value op i (g.value t))) (sym k.type_is) (unary_too w op l.meant.type _ _ (k.values h)))
  alike_layer (Expr-F.Deref a) st =
      let k = a.1 st in
      item_alike _ _ _ (watched types a.0).meant.value (meant there (renamed f a.0)).value (ap pointee k.type_is) k.values
  alike_layer (Expr-F.AddressOf a) st =
      let k = a.1 st in
      value_alike _ _ (watched types a.0).meant.address (meant there (renamed f a.0)).address _ (ap pointer_to k.type_is) k.addresses
  alike_layer (Expr-F.Binary op a b) st =
      let l = watched types a.0 in
      let r = watched types b.0 in
      let g = meant there (renamed f a.0) in
      let h = meant there (renamed f b.0) in
      let k = a.1 (left_stays (named_in a.0) (named_in b.0) st) in
      let j = b.1 (right_stays (named_in a.0) (named_in b.0) st) in
      value_alike _ _ _ (λ z. binary_value op g.type h.type z.memory (g.value z) (h.value z)) _ (ap₂ (binary_tree_type op) k.type_is j.type_is) (λ hold. binary_alike op l.meant.type r.meant.type g.type h.type _ _ _ _ k.type_is j.type_is (k.values (first_hold (l.read s) (r.read s) hold)) (j.values (second_hold (l.read s) (r.read s) hold)))
  alike_layer (Expr-F.AndAlso a b) st =
      let l = watched types a.0 in
      let r = watched types b.0 in
      let g = meant there (renamed f a.0) in
      let h = meant there (renamed f b.0) in
      let k = a.1 (left_stays (named_in a.0) (named_in b.0) st) in
      let j = b.1 (right_stays (named_in a.0) (named_in b.0) st) in
      let more = chosen_read (l.meant.value s) (r.read s) [] in
      value_alike _ _ _ (λ z. and_both (g.value z) (h.value z)) _ refl (λ hold. and_too w (l.meant.value s) (r.meant.value s) (g.value t) (h.value t) (k.values (first_hold (l.read s) more hold)) (λ u e z. j.values (where_not (l.meant.value s) u (r.read s) [] e z (second_hold (l.read s) more hold))))
  alike_layer (Expr-F.OrElse a b) st =
      let l = watched types a.0 in
      let r = watched types b.0 in
      let g = meant there (renamed f a.0) in
      let h = meant there (renamed f b.0) in
      let k = a.1 (left_stays (named_in a.0) (named_in b.0) st) in
      let j = b.1 (right_stays (named_in a.0) (named_in b.0) st) in
      let more = chosen_read (l.meant.value s) [] (r.read s) in
      value_alike _ _ _ (λ z. or_both (g.value z) (h.value z)) _ refl (λ hold. or_too w (l.meant.value s) (r.meant.value s) (g.value t) (h.value t) (k.values (first_hold (l.read s) more hold)) (λ u e z. j.values (where_zero (l.meant.value s) u [] (r.read s) e z (second_hold (l.read s) more hold))))
  alike_layer (Expr-F.Choose c a b) st =
      let o = watched types c.0 in
      let l = watched types a.0 in
      let r = watched types b.0 in
      let p = meant there (renamed f c.0) in
      let g = meant there (renamed f a.0) in
      let h = meant there (renamed f b.0) in
      let rest = right_stays (named_in c.0) (λ x. named_in a.0 x || named_in b.0 x) st in
      let i = c.1 (left_stays (named_in c.0) (λ x. named_in a.0 x || named_in b.0 x) st) in
      let k = a.1 (left_stays (named_in a.0) (named_in b.0) rest) in
      let j = b.1 (right_stays (named_in a.0) (named_in b.0) rest) in
      let more = chosen_read (o.meant.value s) (l.read s) (r.read s) in
      let same : chosen_type g.type h.type ≡ chosen_type l.meant.type r.meant.type = ap₂ chosen_type k.type_is j.type_is in
      value_alike _ _ _ (λ z. chosen_value (chosen_type g.type h.type) (p.value z) (g.value z) (h.value z)) _ same (λ hold. chosen_alike (chosen_type l.meant.type r.meant.type) (chosen_type g.type h.type) (o.meant.value s) (l.meant.value s) (r.meant.value s) (p.value t) (g.value t) (h.value t) same (chosen_too w (chosen_type l.meant.type r.meant.type) (o.meant.value s) (l.meant.value s) (r.meant.value s) (p.value t) (g.value t) (h.value t) (i.values (first_hold (o.read s) more hold)) (λ u e z. k.values (where_not (o.meant.value s) u (l.read s) (r.read s) e z (second_hold (o.read s) more hold))) (λ u e z. j.values (where_zero (o.meant.value s) u (l.read s) (r.read s) e z (second_hold (o.read s) more hold)))))
  alike_layer (Expr-F.Cast i a) st =
      let k = a.1 st in
      let l = watched types a.0 in
      let g = meant there (renamed f a.0) in
      value_alike _ _ _ (λ z. option_and_then (as_type (integer i)) (g.value z)) _ refl (λ h. then_too (AlikeValue w) (AlikeValue w) (as_type (integer i)) (as_type (integer i)) (l.meant.value s) (g.value t) (k.values h) (converted_too w (integer i)))
  alike_layer (Expr-F.Index a b) st =
      let l = watched types a.0 in
      let r = watched types b.0 in
      let g = meant there (renamed f a.0) in
      let h = meant there (renamed f b.0) in
      let k = a.1 (left_stays (named_in a.0) (named_in b.0) st) in
      let j = b.1 (right_stays (named_in a.0) (named_in b.0) st) in
      item_alike _ _ _ (indexed l.meant r.meant) (indexed g h) (ap pointee k.type_is) (λ hold. binary_alike Add l.meant.type r.meant.type g.type h.type _ _ _ _ k.type_is j.type_is (k.values (first_hold (l.read s) (r.read s) hold)) (j.values (second_hold (l.read s) (r.read s) hold)))
  alike_layer (Expr-F.Member a k) st =
      let e = a.1 st in
      part_alike _ _ _ (λ z. member_of k z ((watched types a.0).meant.place z)) (λ z. member_of k z ((meant there (renamed f a.0)).place z)) (stand.types_are.members k) (λ h. member_alike k _ _ (e.places h))
  alike_layer (Expr-F.Arrow a k) st =
      let e = a.1 st in
      part_alike _ _ _ (λ z. pointed_member k z ((watched types a.0).meant.value z)) (λ z. pointed_member k z ((meant there (renamed f a.0)).value z)) (stand.types_are.members k) (λ h. pointed_alike k _ _ (e.values h))
  alike_layer (Expr-F.Paren a) st = a.1 st

  alike_rolled : (z : Expr-F Expr) → (NamesStay names (layer_named z) → ComesAlike (step_here z) (step_there z)) → IsAlike (roll-Expr z)
  alike_rolled z h st =
      subst (λ g. ComesAlike (watched types (roll-Expr z)) g) (sym (fold_renamed Meant (meant_step there) f z)) (subst (λ e. ComesAlike e (step_there z)) (sym (fold-roll-Expr Watched (watched_step types) z)) (h (subst (NamesStay names) (fold-roll-Expr (ℕ → Bool) names_step z) st)))

  alike : (e : Expr) → IsAlike e
  alike = of_every_expr IsAlike (λ y. alike_rolled (expr_layer IsAlike y) (alike_layer y))

  -- ---- expressions

  pub type_alike : (e : Expr) → Staying names e → (meant there (renamed f e)).type ≡ (meant types e).type
  type_alike e st = (alike e st).type_is ∙ ap (λ (m : Meant). m.type) (means_it types e)

  pub values_alike : (e : Expr) → Staying names e → Hold (value_read types e s) → AlikeValues (eval types e s) (eval there (renamed f e) t)
  values_alike e st h = subst (λ (m : Meant). AlikeValues (m.value s) (eval there (renamed f e) t)) (means_it types e) ((alike e st).values h)

  pub places_alike : (e : Expr) → Staying names e → Hold (left_read types e s) → AlikePlaces (place types e s) (place there (renamed f e) t)
  places_alike e st h = subst (λ (m : Meant). AlikePlaces (m.place s) (place there (renamed f e) t)) (means_it types e) ((alike e st).places h)

  pub all_alike : (es : List Expr) → ((e : Expr) → IsIn es e → Staying names e) → Hold (all_read types es s) → ComesToo (AlikeList (AlikeValue w)) (eval_all types es s) (eval_all there (map (renamed f) es) t)
  all_alike [] st h = comes nil
  all_alike (e ∷ es) st h =
      beside_too w _ _ _ _ (values_alike e (st e (inl refl)) (first_hold (value_read types e s) (all_read types es s) h)) (all_alike es (λ d is. st d (inr is)) (second_hold (value_read types e s) (all_read types es s) h))

  -- all of a list, one by one
  pub each_holds : (qs : List Place) → HoldAlike w s t qs → Hold qs
  each_holds qs h q is = All-contains (HoldsAlike w s t) qs q h (contains_of_in qs q is)

pub values_come_together : ValuesComeTogether
values_come_together names w types there s t stand = record {
  values = λ e st h. values_alike names w types there s t stand e st (each_holds names w types there s t stand (value_read types e s) h);
  places = λ e st h. places_alike names w types there s t stand e st (each_holds names w types there s t stand (left_read types e s) h);
  arguments = λ es st h. all_alike names w types there s t stand es (λ e is. All-contains (Staying names) es e st (contains_of_in es e is)) (each_holds names w types there s t stand (all_read types es s) h);
}
