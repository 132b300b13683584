-- A name with `.` selections alone designates one object in the variable's block, whose location has members alone in its path; and no
-- other object of the block has this location.
use Rattle.std.proofs.Common.{◌≡◌, ℕ, List, [], ◌∷◌, ◌++◌, map, Option, Some, None, Bool, true, false, ◌&&◌, inl, inr, refl, sym, ap, ap₂, ◌∙◌, subst, eqb-true}
use Rattle.std.specs.Prelude.{option_and_then, if◌then◌else◌}
use Rattle.std.specs.List.{list_any}
use Rattle.std.proofs.lemmas.Bool.{false≢true, and_parts, or_cases}
use Rattle.std.proofs.lemmas.List.{map-append}
use Rattle.c_language.proofs.Options.{none_there, some_same, map_there, then_there}
use Rattle.c_language.proofs.Lists.{no_list}
use Rattle.c_tree.specs.declared.expr.Expr.{Expr, map-Expr, roll-Expr, fold-roll-Expr}
use Rattle.c_tree.specs.declared.expr.Expr.TheOpen.{Expr-F}
use Rattle.c_tree.specs.declared.expr.MemberId.{MemberId}
use Rattle.c_tree.specs.declared.program.Program.{Program}
use Rattle.c_tree.proofs.Trees.{ExprParts, expr_layer, of_every_expr}
use Rattle.c_language.specs.Lists.{same_all}
use Rattle.c_language.specs.declared.expr_type.ExprType.{ExprType}
use Rattle.c_language.specs.TreeTypes.{typing_of}
use Rattle.c_meaning.specs.declared.value.Hop.{Hop}
use Rattle.c_meaning.specs.declared.value.Hop.TheVariants as hop
use Rattle.c_meaning.specs.declared.value.Place.{Place}
use Rattle.c_meaning.specs.Pointers.{if_typed}
use Rattle.c_meaning.specs.Pointers as pointers
use Rattle.c_meaning.specs.Values.{Types, OfVariable, State, Meant, whole, owner_of, meant_step, meant, place}
use Rattle.dep_model.specs.declared.location.Location.{Location}
use Rattle.dep_model.specs.declared.location.Part.{Part}
use Rattle.dep_model.specs.declared.location.Part.TheVariants as part
use Rattle.dep_model.specs.declared.location.Root.{Root}
use Rattle.dep_model.specs.declared.location.Root.TheVariants.{Input, Variable, Site, Result}
use Rattle.dep_model.specs.Designated.{Designated, designated, designated_step}
use Rattle.dep_model.specs.Denoted.{TargetsOf, Denoted, inside, is_location, denoted, denoted_step, expr_places}
use Rattle.dep_model.specs.Locations.{TypedLocation, locations, same_root, same_part, same_location}
use Rattle.run_facts.specs.CellLocations.{merged, location_in}
use Rattle.run_facts.proofs.PointedObjects.{typed_same}

-- ---- one location

parts_are : (a b : Part) → same_part a b ≡ true → a ≡ b
parts_are (part.Member i) (part.Member j) h = ap part.Member (eqb-true i j h)
parts_are (part.Member i) part.Element h = absurd (false≢true h)
parts_are part.Element (part.Member j) h = absurd (false≢true h)
parts_are part.Element part.Element h = refl

paths_are : (xs ys : List Part) → same_all same_part xs ys ≡ true → xs ≡ ys
paths_are [] [] h = refl
paths_are [] (y ∷ ys) h = absurd (false≢true h)
paths_are (x ∷ xs) [] h = absurd (false≢true h)
paths_are (x ∷ xs) (y ∷ ys) h =
    let k = and_parts (same_part x y) (same_all same_part xs ys) h in
    ap₂ (λ (a : Part) (b : List Part). a ∷ b) (parts_are x y k.0) (paths_are xs ys k.1)

root_of : (x : ℕ) (r : Root) → same_root (Variable x) r ≡ true → r ≡ Variable x
root_of x Input h = absurd (false≢true h)
root_of x (Variable y) h = ap Variable (sym (eqb-true x y h))
root_of x (Site i) h = absurd (false≢true h)
root_of x (Result f) h = absurd (false≢true h)

abbrev pub at_path : ℕ → List Part → Location
at_path x path = record { root = Variable x; path = path }

-- a location that is the same as one of a variable is that
pub location_is : (x : ℕ) (path : List Part) (l : Location) → same_location (at_path x path) l ≡ true → l ≡ at_path x path
location_is x path l h =
    let k = and_parts (same_root (Variable x) l.root) (same_all same_part path l.path) h in
    ap₂ (λ (r : Root) (hs : List Part). record { root = r; path = hs }) (root_of x l.root k.0) (sym (paths_are path l.path k.1))

pub any_there : {A : Type 0} (test : A → Bool) (xs : List A) → list_any test xs ≡ true → (x : A) × (test x ≡ true)
any_there test [] h = absurd (false≢true h)
any_there test (x ∷ xs) h = elim (or_cases (test x) (list_any test xs) h) [ inl t ↦ (x, t) | inr t ↦ any_there test xs t ]

-- ---- what is named

abbrev pub member_hops : List ℕ → List Hop
member_hops ks = map hop.Member ks

abbrev pub member_parts : List ℕ → List Part
member_parts ks = map part.Member ks

-- steps to members are told by their parts
members_told : (ks : List ℕ) (hops : List Hop) → map merged hops ≡ member_parts ks → hops ≡ member_hops ks
members_told [] [] e = refl
members_told [] (h ∷ hops) e = no_list e
members_told (k ∷ ks) [] e = no_list (sym e)
members_told (k ∷ ks) (hop.Member i ∷ hops) e =
    let head = first_part e in ap₂ (λ (x : ℕ) (xs : List Hop). hop.Member x ∷ xs) head (members_told ks hops (rest_parts e))
  where
    first_part : (part.Member i ∷ map merged hops) ≡ (part.Member k ∷ member_parts ks) → i ≡ k
    first_part same = cc

    rest_parts : (part.Member i ∷ map merged hops) ≡ (part.Member k ∷ member_parts ks) → map merged hops ≡ member_parts ks
    rest_parts same = cc
members_told (k ∷ ks) (hop.Element i ∷ hops) e = absurd (apart e)
  where
    apart : (part.Element ∷ map merged hops) ≡ (part.Member k ∷ member_parts ks) → ⊥
    apart same = cc

-- the object of the block with the location
pub told_place : (x : ℕ) (ks : List ℕ) (q : Place) → location_in (OfVariable x) q.path ≡ at_path x (member_parts ks) → q.path ≡ member_hops ks
told_place x ks q e = members_told ks q.path (ap (λ (l : Location). l.path) e)

module _ (p : Program) (points : TargetsOf) (result : Option ExprType) where
  abbrev types : Types
  types = record { typing = typing_of p; result = result }

  -- an expression is a name of the variable with these selections
  pub record IsSelectedFrom (x : ℕ) (e : Expr) : Type 0 where
    pub members : List ℕ
    pub block_is : (s : State) (q : Place) → place types e s ≡ Some q → s.frame x ≡ Some q.block
    pub path_is : (s : State) (q : Place) → place types e s ≡ Some q → q.path ≡ member_hops members
    pub location_is : (l : Location) → expr_places p points e l ≡ true → l ≡ at_path x (member_parts members)

  abbrev Selects : Expr → Type 0
  Selects e = (x : ℕ) → (designated p e).name ≡ Some x → IsSelectedFrom x e

  -- ---- of a layer

  abbrev meant_here : Expr-F Expr → Meant
  meant_here z = meant_step types (map-Expr Expr Meant (meant types) z)

  abbrev denoted_here : Expr-F Expr → Denoted
  denoted_here z = denoted_step p points (map-Expr Expr Denoted (denoted p points) z)

  abbrev designated_here : Expr-F Expr → Designated
  designated_here z = designated_step p (map-Expr Expr Designated (designated p) z)

  record LayerSelects (x : ℕ) (z : Expr-F Expr) : Type 0 where
    members : List ℕ
    block_is : (s : State) (q : Place) → (meant_here z).place s ≡ Some q → s.frame x ≡ Some q.block
    path_is : (s : State) (q : Place) → (meant_here z).place s ≡ Some q → q.path ≡ member_hops members
    location_is : (l : Location) → (denoted_here z).places l ≡ true → l ≡ at_path x (member_parts members)

  name_selects : (y x : ℕ) → y ≡ x → LayerSelects x (Expr-F.Variable y)
  name_selects y x same = record {
    members = [];
    block_is = λ s q e. let m = map_there whole (s.frame y) q e in ap s.frame (sym same) ∙ (m.there ∙ ap (λ (z : Place). Some z.block) m.same);
    path_is = λ s q e. let m = map_there whole (s.frame y) q e in ap (λ (z : Place). z.path) (sym m.same);
    location_is = λ l h. location_is y [] l h ∙ ap (λ k. at_path k []) same;
  }

  -- the object from which a member is selected
  record IsMemberOf (a : Expr) (m : MemberId) (s : State) (q : Place) : Type 0 where
    object : Place
    object_is : place types a s ≡ Some object
    place_is : pointers.inside (hop.Member m.index) object ≡ q

  member_there : (a : Expr) (m : MemberId) (s : State) (q : Place) → (meant_here (Expr-F.Member a m)).place s ≡ Some q → IsMemberOf a m s q
  member_there a m s q e =
      let k = map_there (pointers.inside (hop.Member m.index)) (option_and_then (if_typed s.memory (owner_of m)) (place types a s)) q e in
      let o = then_there (if_typed s.memory (owner_of m)) (place types a s) k.value k.there in
      record { object = k.value; object_is = o.there ∙ ap Some (typed_same s.memory (owner_of m) o.value k.value o.same); place_is = k.same }

  member_selects : (a : Expr) (m : MemberId) (x : ℕ) → IsSelectedFrom x a → LayerSelects x (Expr-F.Member a m)
  member_selects a m x h = record {
    members = h.members ++ m.index ∷ [];
    block_is = λ s q e. let k = member_there a m s q e in h.block_is s k.object k.object_is ∙ ap (λ (z : Place). Some z.block) k.place_is;
    path_is = λ s q e.
        let k = member_there a m s q e in
        ap (λ (z : Place). z.path) (sym k.place_is) ∙ (ap (λ (hs : List Hop). hs ++ hop.Member m.index ∷ []) (h.path_is s k.object k.object_is) ∙ sym (map-append hop.Member h.members (m.index ∷ [])));
    location_is = λ l e.
        let test : TypedLocation → Bool = λ o. expr_places p points a o.location && same_location (inside o.location (part.Member m.index)) l in
        let o = any_there test (locations p) (and_parts (is_location p l) (list_any test (locations p)) e).1 in
        let b = and_parts (expr_places p points a o.0.location) (same_location (inside o.0.location (part.Member m.index)) l) o.1 in
        let at_ = h.location_is o.0.location b.0 in
        location_is x (member_parts h.members ++ part.Member m.index ∷ []) l (subst (λ (k : Location). same_location (inside k (part.Member m.index)) l ≡ true) at_ b.1)
        ∙ ap (at_path x) (sym (map-append part.Member h.members (m.index ∷ [])));
  }

  no_name : (b : Bool) (c d : Designated) (x : ℕ) {A : Type 0} → c.name ≡ None → d.name ≡ None → (if b then c else d).name ≡ Some x → A
  no_name true c d x h k e = none_there (sym h ∙ e)
  no_name false c d x h k e = none_there (sym k ∙ e)

  layer_selects : (y : ExprParts Selects) (x : ℕ) → (designated_here (expr_layer Selects y)).name ≡ Some x → LayerSelects x (expr_layer Selects y)
  layer_selects (Expr-F.Constant t k v) x e = none_there e
  layer_selects Expr-F.Null x e = none_there e
  layer_selects Expr-F.Eof x e = none_there e
  layer_selects (Expr-F.Variable y) x e = name_selects y x (some_same e)
  layer_selects (Expr-F.Unary op a) x e = none_there e
  layer_selects (Expr-F.Deref a) x e = none_there e
  layer_selects (Expr-F.AddressOf a) x e = none_there e
  layer_selects (Expr-F.Binary op a b) x e = none_there e
  layer_selects (Expr-F.AndAlso a b) x e = none_there e
  layer_selects (Expr-F.OrElse a b) x e = none_there e
  layer_selects (Expr-F.Choose c a b) x e = none_there e
  layer_selects (Expr-F.Cast k a) x e = none_there e
  layer_selects (Expr-F.Index a i) x e = no_name _ _ _ x refl refl e
  layer_selects (Expr-F.Member a m) x e = member_selects a.0 m x (a.1 x e)
  layer_selects (Expr-F.Arrow a m) x e = none_there e
  layer_selects (Expr-F.Paren a) x e = none_there e

  rolled : (y : ExprParts Selects) → Selects (roll-Expr (expr_layer Selects y))
  rolled y x e =
      let z = expr_layer Selects y in
      let h = layer_selects y x (sym (ap (λ (d : Designated). d.name) (fold-roll-Expr Designated (designated_step p) z)) ∙ e) in
      let meant_is = fold-roll-Expr Meant (meant_step types) z in
      let denoted_is = fold-roll-Expr Denoted (denoted_step p points) z in
      record {
        members = h.members;
        block_is = λ s q k. h.block_is s q (sym (ap (λ (m : Meant). m.place s) meant_is) ∙ k);
        path_is = λ s q k. h.path_is s q (sym (ap (λ (m : Meant). m.place s) meant_is) ∙ k);
        location_is = λ l k. h.location_is l (sym (ap (λ (d : Denoted). d.places l) denoted_is) ∙ k);
      }

  -- what a name with selections designates
  pub selected_from : (e : Expr) → Selects e
  selected_from = of_every_expr Selects rolled
