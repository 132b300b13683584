-- What a statement kills its act overwrites: where that is a location of a variable, the act stores into all live cells of it that the
-- activation can name.
use Rattle.std.proofs.Common.{◌≡◌, ◌↔◌, ℕ, zero, suc, ◌+◌, ◌*◌, ◌<◌, List, [], ◌∷◌, ◌++◌, map, Option, Some, None, Bool, true, false, ◌&&◌, inl, inr, refl, sym, ap, ap₂, ◌∙◌, subst, arith, eq-eqb, ltb-true}
use Rattle.std.specs.Prelude.{not, ◌||◌, Contains, nat_lt, option_map, option_and_then, is_some, if◌then◌else◌}
use Rattle.std.specs.List.{list_any}
use Rattle.std.proofs.lemmas.Bool.{false≢true, and_parts, or_cases}
use Rattle.c_arith.specs.declared.int_type.IntType.TheVariants.{UChar}
use Rattle.c_arith.specs.IntType.{convert}
use Rattle.c_language.proofs.Options.{none_there, some_same, map_there, then_there}
use Rattle.c_language.proofs.Lists.{no_list}
use Rattle.c_language.proofs.Tests.{by_test}
use Rattle.c_tree.specs.declared.expr.Expr.{Expr}
use Rattle.c_tree.specs.declared.program.Init.{Init}
use Rattle.c_tree.specs.declared.program.Init.TheVariants as init
use Rattle.c_tree.specs.declared.program.Program.{Program}
use Rattle.c_tree.specs.declared.statement.Amount.{Amount}
use Rattle.c_tree.specs.declared.statement.Target.{Target}
use Rattle.c_tree.specs.declared.statement.Target.TheVariants as target
use Rattle.c_language.specs.Code.{Act, Begins, Sets, Bumps, Fetches, Writes, Prints, Allocates, Frees, Returns, Tests}
use Rattle.c_language.specs.declared.expr_type.Base.{Base}
use Rattle.c_language.specs.declared.expr_type.Layer.{Layer}
use Rattle.c_language.specs.declared.expr_type.Layer.TheVariants as layer
use Rattle.c_language.specs.declared.expr_type.ExprType.{ExprType}
use Rattle.c_language.specs.ExprTypes.{target_of}
use Rattle.c_language.specs.TreeTypes.{typing_of, type_of_variable}
use Rattle.c_meaning.specs.declared.value.Hop.{Hop}
use Rattle.c_meaning.specs.declared.value.Hop.TheVariants as hop
use Rattle.c_meaning.specs.declared.value.Place.{Place}
use Rattle.c_meaning.specs.declared.value.Value.{Value}
use Rattle.c_meaning.specs.declared.value.Value.TheVariants.{Number, Null, To}
use Rattle.c_meaning.specs.Cells.{Structs, Subobject, cell_count, cell_number, element_in}
use Rattle.c_meaning.specs.Memory.{Memory, is_cell, can_free}
use Rattle.c_meaning.specs.Pointers.{inside}
use Rattle.c_meaning.specs.Values.{Types, Origin, OfVariable, State, whole, variable_place, tested, eval, eval_all, type_of, place}
use Rattle.c_meaning.specs.Acts.{Store, Made, shows, storing, if_cell, writable, assigned, right_of, bumped, list_stores, all_cells, listed_in, given, next_byte, taking, put_out, printed_all, asked_count, granted, beginning, next_block, begun_for, target_type, freed_at, as_result, returning, shown_result, begun_with, made}
use Rattle.dep_model.specs.declared.location.Location.{Location}
use Rattle.dep_model.specs.declared.location.Part.{Part}
use Rattle.dep_model.specs.declared.location.Part.TheVariants as part
use Rattle.dep_model.specs.declared.location.Root.{Root}
use Rattle.dep_model.specs.declared.location.Root.TheVariants.{Input, Variable, Result}
use Rattle.dep_model.specs.Denoted as denoted
use Rattle.dep_model.specs.Denoted.{Places, TargetsOf, part_of, is_location, expr_places}
use Rattle.dep_model.specs.Designated.{designated}
use Rattle.dep_model.specs.DoingEffects.{the_input, result_of, is_taken, is_global, is_killable, named_kills, left_kills, target_kills, act_defines, act_kills}
use Rattle.dep_model.specs.ModRef.{is_outside_root, is_outside}
use Rattle.dep_model.specs.Locations.{TypedLocation, locations, same_root, same_location}
use Rattle.dep_model.proofs.Membership.{IsIn, in_of_contains, contains_of_in}
use Rattle.run_facts.specs.CellLocations.{merged, location_in, location_of}
use Rattle.run_facts.specs.Effects.{Touch}
use Rattle.run_facts.specs.Effects as effects
use Rattle.run_facts.specs.ReadCells.{reads_input}
use Rattle.run_facts.specs.Touching.{CanName}
use Rattle.run_facts.specs.TypedStates.{IsTypedState}
use Rattle.run_facts.proofs.ActCells.{list_place, IsListed, listed_there}
use Rattle.run_facts.proofs.AssignedValues.{assigned_there}
use Rattle.run_facts.proofs.CellPaths.{step_at}
use Rattle.run_facts.proofs.CellPlaces.{live_cell}
use Rattle.run_facts.proofs.SelectedPlaces.{at_path, location_is, any_there, member_hops, member_parts, told_place, selected_from}

-- ---- lists of stores

abbrev pub cells_of : List Store → List Place
cells_of ws = map (λ (w : Touch). w.cell) (map effects.storing ws)

store_of : (ws : List Store) (q : Place) → IsIn (cells_of ws) q → (w : Store) × IsIn ws w × (w.place ≡ q)
store_of [] q h = absurd h
store_of (w ∷ ws) q (inl e) = (w, inl refl, e)
store_of (w ∷ ws) q (inr h) = let k = store_of ws q h in (k.0, inr k.1, k.2)

-- each element below the length is stored into
list_holds : (q : Place) (t : ExprType) (i n : ℕ) (vs : List Value) (j : ℕ) → j < n → IsIn (cells_of (list_stores q t i n vs)) (inside (hop.Element (i + j)) q)
list_holds q t i zero vs j low = absurd (omega (arith, low))
list_holds q t i (suc n) [] zero low = let same : i ≡ i + 0 = omega arith in inl (ap (λ (k : ℕ). inside (hop.Element k) q) same)
list_holds q t i (suc n) (v ∷ vs) zero low = let same : i ≡ i + 0 = omega arith in inl (ap (λ (k : ℕ). inside (hop.Element k) q) same)
list_holds q t i (suc n) [] (suc j) low =
    let same : suc i + j ≡ i + suc j = omega arith in
    inr (subst (λ (k : ℕ). IsIn (cells_of (list_stores q t (suc i) n [])) (inside (hop.Element k) q)) same (list_holds q t (suc i) n [] j (omega (arith, low))))
list_holds q t i (suc n) (v ∷ vs) (suc j) low =
    let same : suc i + j ≡ i + suc j = omega arith in
    inr (subst (λ (k : ℕ). IsIn (cells_of (list_stores q t (suc i) n vs)) (inside (hop.Element k) q)) same (list_holds q t (suc i) n vs j (omega (arith, low))))

live_store : (mem : Memory) (ws : List Store) (w : Store) → all_cells mem ws ≡ true → IsIn ws w → is_cell mem w.place ≡ true
live_store mem [] w h i = absurd i
live_store mem (u ∷ ws) w h (inl e) = subst (λ (x : Store). is_cell mem x.place ≡ true) e (and_parts (is_cell mem u.place) (all_cells mem ws) h).0
live_store mem (u ∷ ws) w h (inr i) = live_store mem ws w (and_parts (is_cell mem u.place) (all_cells mem ws) h).1 i

-- a path whose location is that of an array's elements leads to one of them
element_path : (hops : List Hop) → map merged hops ≡ part.Element ∷ [] → (j : ℕ) × (hops ≡ hop.Element j ∷ [])
element_path [] e = no_list (sym e)
element_path (hop.Element j ∷ []) e = (j, refl)
element_path (hop.Member j ∷ hops) e = absurd (apart e)
  where
    apart : (part.Member j ∷ map merged hops) ≡ (part.Element ∷ []) → ⊥
    apart same = cc
element_path (hop.Element j ∷ (h ∷ hops)) e = absurd (longer e)
  where
    longer : (part.Element ∷ (merged h ∷ map merged hops)) ≡ (part.Element ∷ []) → ⊥
    longer same = cc

-- a part with an index is below the length
index_below : (structs : Structs) (j n : ℕ) (ls inner : List Layer) (b : Base) (o : Subobject) → ls ≡ layer.Array n ∷ inner → element_in structs j ls b ≡ Some o → j < n
index_below structs j n ls inner b o is e =
    let t : ExprType = record { layers = inner; base = b } in
    let k : (if nat_lt j n then Some (record { type = t; before = j * cell_count structs t }) else None) ≡ Some o = ap (λ (ms : List Layer). element_in structs j ms b) (sym is) ∙ e in
    by_test (nat_lt j n) k (λ low same. ltb-true j n low) (λ high none. none_there none)

-- ---- roots

pub no_input : {A : Type 0} (l : Location) (x : ℕ) → l.root ≡ Variable x → same_location the_input l ≡ true → A
no_input l x root h = absurd (false≢true (subst (λ z. same_root Input z ≡ true) root (and_parts (same_root Input l.root) _ h).0))

pub no_result : {A : Type 0} (f : ℕ) (l : Location) (x : ℕ) → l.root ≡ Variable x → same_location (result_of f) l ≡ true → A
no_result f l x root h = absurd (false≢true (subst (λ z. same_root (Result f) z ≡ true) root (and_parts (same_root (Result f) l.root) _ h).0))

same_variable : (x y : ℕ) → ◌≡◌ {A = Root} (Variable x) (Variable y) → x ≡ y
same_variable x y e = cc

abbrev placed : ℕ → List Hop → Place
placed b path = record { block = b; path = path }

module _ (p : Program) (points : TargetsOf) (s : State) (typed : IsTypedState p points s) (result : Option ExprType) where
  abbrev types : Types
  types = record { typing = typing_of p; result = result }

  -- where one of these locations is that of a variable, all its live cells that can be named are stored into
  abbrev pub Overwritten : Places → Made → Type 0
  Overwritten kills m =
      (l : Location) (x : ℕ) → l.root ≡ Variable x → kills l ≡ true
      → (q : Place) → CanName s x l q ↔ (Contains (cells_of m.stores) q × (location_of s.origins q ≡ Some l))

  -- locations of variables alone are among these, each of one that a name kills
  abbrev pub OfVariables : Places → Type 0
  OfVariables kills = (l : Location) → kills l ≡ true → (x : ℕ) × (l.root ≡ Variable x) × (is_killable p x ≡ true)

  named_location : (x : ℕ) (q : Place) (l : Location) → s.frame x ≡ Some q.block → location_of s.origins q ≡ Some l → location_in (OfVariable x) q.path ≡ l
  named_location x q l named at_ = some_same (sym (ap (option_map (λ (o : Origin). location_in o q.path)) (typed.named x q.block named)) ∙ at_)

  same_root_of : (x y : ℕ) (l : Location) (path : List Part) → l.root ≡ Variable x → l ≡ at_path y path → y ≡ x
  same_root_of x y l path root is = let e = sym (ap (λ (k : Location). k.root) is) ∙ root in cc

  -- ---- one cell

  -- one store goes to a member, or to the whole, of a variable
  record IsOneStore (y : ℕ) (ks : List ℕ) (m : Made) : Type 0 where
    to : Place
    value : Value
    same : storing to value ≡ m
    live : is_cell s.memory to ≡ true
    block_is : s.frame y ≡ Some to.block
    path_is : to.path ≡ member_hops ks

  one_overwritten : (y : ℕ) (ks : List ℕ) (m : Made) → IsOneStore y ks m → (l : Location) (x : ℕ) → l.root ≡ Variable x → l ≡ at_path y (member_parts ks) → (q : Place) → CanName s x l q ↔ (Contains (cells_of m.stores) q × (location_of s.origins q ≡ Some l))
  one_overwritten y ks m one l x root is q = (forwards, backwards)
    where
      same : y ≡ x
      same = same_root_of x y l (member_parts ks) root is

      forwards : CanName s x l q → Contains (cells_of m.stores) q × (location_of s.origins q ≡ Some l)
      forwards h =
          let at_ : location_in (OfVariable x) q.path ≡ at_path x (member_parts ks) = named_location x q l h.named h.location_is ∙ (is ∙ ap (λ (k : ℕ). at_path k (member_parts ks)) same) in
          let path : one.to.path ≡ q.path = one.path_is ∙ sym (told_place x ks q at_) in
          let block : one.to.block ≡ q.block = some_same (sym one.block_is ∙ (ap s.frame same ∙ h.named)) in
          let here : one.to ≡ q = ap₂ placed block path in
          (contains_of_in (cells_of m.stores) q (subst (λ (z : Made). IsIn (cells_of z.stores) q) one.same (inl here)), h.location_is)

      of_one : IsIn (one.to ∷ []) q → one.to ≡ q
      of_one (inl e) = e
      of_one (inr h) = absurd h

      backwards : Contains (cells_of m.stores) q × (location_of s.origins q ≡ Some l) → CanName s x l q
      backwards h =
          let here = of_one (subst (λ (z : Made). IsIn (cells_of z.stores) q) (sym one.same) (in_of_contains (cells_of m.stores) q h.0)) in
          record {
            named = ap s.frame (sym same) ∙ (one.block_is ∙ ap (λ (r : Place). Some r.block) here);
            is_live = subst (λ (r : Place). is_cell s.memory r ≡ true) here one.live;
            location_is = h.1;
          }

  -- a store goes to a live cell
  record IsWritten (o : Option Place) (q : Place) : Type 0 where
    there : o ≡ Some q
    live : is_cell s.memory q ≡ true

  written_there : (o : Option Place) (q : Place) → writable s o ≡ Some q → IsWritten o q
  written_there o q e =
      let k = then_there (if_cell s.memory) o q e in
      by_test (is_cell s.memory k.value) k.same
      (λ live same. record { there = k.there ∙ ap Some (some_same same); live = subst (λ (z : Place). is_cell s.memory z ≡ true) (some_same same) live })
      (λ dead none. none_there none)

  -- ---- left sides

  left_overwritten : (e : Expr) (t : ExprType) (v : Option Value) (m : Made) → assigned t (writable s (place types e s)) v ≡ Some m → Overwritten (left_kills p points e) m
  left_overwritten e t v m h l x root = by_name (designated p e).name refl
    where
      by_name : (o : Option ℕ) → (designated p e).name ≡ o → named_kills p points o (expr_places p points e) l ≡ true → (q : Place) → CanName s x l q ↔ (Contains (cells_of m.stores) q × (location_of s.origins q ≡ Some l))
      by_name None is kl = absurd (false≢true kl)
      by_name (Some y) is kl =
          let k = selected_from p points result e y is in
          let a = assigned_there t (writable s (place types e s)) v m h in
          let w = written_there (place types e s) a.place a.place_is in
          one_overwritten y k.members m (record { to = a.place; value = a.stored; same = a.same; live = w.live; block_is = k.block_is s a.place w.there; path_is = k.path_is s a.place w.there }) l x root (k.location_is l (and_parts (is_killable p y) (expr_places p points e l) kl).1)

  left_variables : (e : Expr) → OfVariables (left_kills p points e)
  left_variables e l = by_name (designated p e).name refl
    where
      by_name : (o : Option ℕ) → (designated p e).name ≡ o → named_kills p points o (expr_places p points e) l ≡ true → (x : ℕ) × (l.root ≡ Variable x) × (is_killable p x ≡ true)
      by_name None is kl = absurd (false≢true kl)
      by_name (Some y) is kl =
          let k = selected_from p points result e y is in
          let h = and_parts (is_killable p y) (expr_places p points e l) kl in
          (y, ap (λ (z : Location). z.root) (k.location_is l h.1), h.0)

  -- ---- variables

  abbrev pub whole_kills : ℕ → Places
  whole_kills y l = is_killable p y && denoted.whole y l

  whole_overwritten : (y : ℕ) (t : ExprType) (v : Option Value) (m : Made) → assigned t (writable s (variable_place y s)) v ≡ Some m → Overwritten (whole_kills y) m
  whole_overwritten y t v m h l x root kl =
      let a = assigned_there t (writable s (variable_place y s)) v m h in
      let w = written_there (variable_place y s) a.place a.place_is in
      let b = map_there whole (s.frame y) a.place w.there in
      one_overwritten y [] m (record { to = a.place; value = a.stored; same = a.same; live = w.live; block_is = b.there ∙ ap (λ (z : Place). Some z.block) b.same; path_is = ap (λ (z : Place). z.path) (sym b.same) }) l x root (location_is y [] l (and_parts (is_killable p y) (denoted.whole y l) kl).1)

  pub whole_root : (y : ℕ) (l : Location) → whole_kills y l ≡ true → l.root ≡ Variable y
  whole_root y l kl = ap (λ (z : Location). z.root) (location_is y [] l (and_parts (is_killable p y) (denoted.whole y l) kl).1)

  whole_variables : (y : ℕ) → OfVariables (whole_kills y)
  whole_variables y l kl =
      let h = and_parts (is_killable p y) (denoted.whole y l) kl in (y, ap (λ (z : Location). z.root) (location_is y [] l h.1), h.0)

  -- ---- targets

  pub target_overwritten : (to : Target) (v : Value) (m : Made) → given types to v s ≡ Some m → Overwritten (target_kills p points to) m
  target_overwritten target.None v m h l x root kl = absurd (false≢true kl)
  target_overwritten (target.Place e) v m h l x root kl = left_overwritten e (type_of types e) (Some v) m h l x root kl
  target_overwritten (target.Declared y) v m h l x root kl = whole_overwritten y (types.typing.variable y) (Some v) m h l x root kl

  pub target_variables : (to : Target) → OfVariables (target_kills p points to)
  target_variables target.None l kl = absurd (false≢true kl)
  target_variables (target.Place e) l kl = left_variables e l kl
  target_variables (target.Declared y) l kl = whole_variables y l kl

  -- ---- lists

  abbrev pub element_kills : ℕ → Places
  element_kills y l = is_killable p y && part_of p part.Element (denoted.whole y) l

  element_location : (y : ℕ) (l : Location) → element_kills y l ≡ true → l ≡ at_path y (part.Element ∷ [])
  element_location y l kl =
      let test : TypedLocation → Bool = λ o. denoted.whole y o.location && same_location (denoted.inside o.location part.Element) l in
      let o = any_there test (locations p) (and_parts (is_location p l) (list_any test (locations p)) (and_parts (is_killable p y) (part_of p part.Element (denoted.whole y) l) kl).1).1 in
      let b = and_parts (denoted.whole y o.0.location) (same_location (denoted.inside o.0.location part.Element) l) o.1 in
      let at_ = location_is y [] o.0.location b.0 in
      location_is y (part.Element ∷ []) l (subst (λ (k : Location). same_location (denoted.inside k part.Element) l ≡ true) at_ b.1)

  -- a live element of a variable's array is below the array's length
  element_below : (y j n : ℕ) (inner : List Layer) (q : Place) → s.frame y ≡ Some q.block → q.path ≡ hop.Element j ∷ [] → is_cell s.memory q ≡ true → (type_of_variable p y).layers ≡ layer.Array n ∷ inner → j < n
  element_below y j n inner q named path live layers =
      let c = live_cell s.memory q live in
      let block = typed.blocks q.block (OfVariable y) c.block (typed.named y q.block named) c.block_is in
      let k = step_at s.memory.structs (hop.Element j) [] c.block.shape c.number (subst (λ hs. cell_number s.memory.structs hs c.block.shape ≡ Some c.number) path c.number_is) in
      index_below s.memory.structs j n c.block.shape.layers inner c.block.shape.base k.object (ap (λ (t : ExprType). t.layers) block.shape_is ∙ layers) k.object_is

  list_overwritten : (y : ℕ) (q : Place) (m : Made) → variable_place y s ≡ Some q → IsListed s.memory (type_of_variable p y) q m → Overwritten (element_kills y) m
  list_overwritten y q m there listed l x root kl r = (forwards, backwards)
    where
      is : l ≡ at_path y (part.Element ∷ [])
      is = element_location y l kl

      same : y ≡ x
      same = same_root_of x y l (part.Element ∷ []) root is

      block : s.frame y ≡ Some q.block
      block = let b = map_there whole (s.frame y) q there in b.there ∙ ap (λ (z : Place). Some z.block) b.same

      empty : q.path ≡ []
      empty = let b = map_there whole (s.frame y) q there in ap (λ (z : Place). z.path) (sym b.same)

      forwards : CanName s x l r → Contains (cells_of m.stores) r × (location_of s.origins r ≡ Some l)
      forwards h =
          let at_ = named_location x r l h.named h.location_is ∙ is in
          let j = element_path r.path (ap (λ (k : Location). k.path) at_) in
          let named : s.frame y ≡ Some r.block = ap s.frame same ∙ h.named in
          let low = element_below y j.0 listed.count listed.inner r named j.1 h.is_live listed.layers_are in
          let place : inside (hop.Element (0 + j.0)) q ≡ r = ap₂ placed (some_same (sym block ∙ named)) (ap (λ (hs : List Hop). hs ++ hop.Element (0 + j.0) ∷ []) empty ∙ (ap (λ (k : ℕ). hop.Element k ∷ []) (omega arith) ∙ sym j.1)) in
          (contains_of_in (cells_of m.stores) r (subst (λ (ws : List Store). IsIn (cells_of ws) r) (sym listed.stores_are) (subst (λ (z : Place). IsIn (cells_of (list_stores q listed.items 0 listed.count listed.values)) z) place (list_holds q listed.items 0 listed.count listed.values j.0 low))), h.location_is)

      backwards : Contains (cells_of m.stores) r × (location_of s.origins r ≡ Some l) → CanName s x l r
      backwards h =
          let w = store_of m.stores r (in_of_contains (cells_of m.stores) r h.0) in
          let j = list_place q listed.items 0 listed.count listed.values w.0 (subst (λ (ws : List Store). IsIn ws w.0) listed.stores_are w.1) in
          record {
            named = ap s.frame (sym same) ∙ (block ∙ ap (λ (z : Place). Some z.block) (sym j.1 ∙ w.2));
            is_live = subst (λ (z : Place). is_cell s.memory z ≡ true) w.2 (live_store s.memory m.stores w.0 listed.live w.1);
            location_is = h.1;
          }

  pub element_root : (y : ℕ) (l : Location) → element_kills y l ≡ true → l.root ≡ Variable y
  element_root y l kl = ap (λ (z : Location). z.root) (element_location y l kl)

  element_variables : (y : ℕ) → OfVariables (element_kills y)
  element_variables y l kl =
      (y, ap (λ (z : Location). z.root) (element_location y l kl), (and_parts (is_killable p y) (part_of p part.Element (denoted.whole y) l) kl).0)

  -- ---- acts

  -- what an act of function f kills it overwrites, the input and the result too; and what it returns it defines
  pub record IsKill (f : ℕ) (a : Act) (m : Made) : Type 0 where
    pub cells : Overwritten (act_kills p points f a) m
    pub killable : (l : Location) (x : ℕ) → l.root ≡ Variable x → act_kills p points f a l ≡ true → is_killable p x ≡ true
    pub input : act_kills p points f a the_input ≡ true → reads_input a ≡ true
    pub result_is : act_kills p points f a (result_of f) ≡ true → is_some m.returned ≡ true
    pub returned : (v : Value) → m.returned ≡ Some v → act_defines p points f a (result_of f) ≡ true

  input_apart : {A : Type 0} (x : ℕ) → the_input.root ≡ Variable x → A
  input_apart x e = cc

  result_apart : {A : Type 0} (f x : ℕ) → (result_of f).root ≡ Variable x → A
  result_apart f x e = cc

  pub one_variable : (kills : Places) → OfVariables kills → (l : Location) (x : ℕ) → l.root ≡ Variable x → kills l ≡ true → is_killable p x ≡ true
  one_variable kills variables l x root kl =
      let k = variables l kl in let same : k.0 ≡ x = same_variable k.0 x (sym k.1 ∙ root) in subst (λ (z : ℕ). is_killable p z ≡ true) same k.2

  -- a location that is seen outside, and that is killed, is a global's
  pub killed_global : (l : Location) (x : ℕ) → l.root ≡ Variable x → is_killable p x ≡ true → is_outside p l ≡ true → is_global p x ≡ true
  killed_global l x root killable out = by_kind (is_global p x) (is_taken p x) killable (subst (λ (r : Root). is_outside_root p r ≡ true) root out)
    where
      by_kind : (b c : Bool) → (b || not c) ≡ true → (b || c) ≡ true → b ≡ true
      by_kind true c h k = refl
      by_kind false true h k = absurd (false≢true h)
      by_kind false false h k = absurd (false≢true k)

  -- an act that kills locations of variables alone, and returns nothing
  storing_kill : (f : ℕ) (a : Act) (m : Made) → Overwritten (act_kills p points f a) m → OfVariables (act_kills p points f a) → m.returned ≡ None → IsKill f a m
  storing_kill f a m cells variables silent = record {
    cells = cells;
    killable = one_variable (act_kills p points f a) variables;
    input = λ kl. let k = variables the_input kl in input_apart k.0 k.1;
    result_is = λ kl. let k = variables (result_of f) kl in result_apart f k.0 k.1;
    returned = λ v e. none_there (sym silent ∙ e);
  }

  -- an act that kills nothing, and returns nothing
  quiet_kill : (f : ℕ) (a : Act) (m : Made) → ((l : Location) → act_kills p points f a l ≡ false) → m.returned ≡ None → IsKill f a m
  quiet_kill f a m none silent =
      storing_kill f a m (λ l x root kl. absurd (false≢true (sym (none l) ∙ kl))) (λ l kl. absurd (false≢true (sym (none l) ∙ kl))) silent

  mapped_silent : {V : Type 0} (g : V → Made) (o : Option V) (m : Made) → ((v : V) → (g v).returned ≡ None) → option_map g o ≡ Some m → m.returned ≡ None
  mapped_silent g o m none e = let k = map_there g o m e in ap (λ (z : Made). z.returned) (sym k.same) ∙ none k.value

  assigned_silent : (t : ExprType) (o : Option Place) (v : Option Value) (m : Made) → assigned t o v ≡ Some m → m.returned ≡ None
  assigned_silent t o v m e = let a = assigned_there t o v m e in ap (λ (z : Made). z.returned) (sym a.same)

  given_silent : (to : Target) (v : Value) (m : Made) → given types to v s ≡ Some m → m.returned ≡ None
  given_silent target.None v m e = ap (λ (z : Made). z.returned) (sym (some_same e))
  given_silent (target.Place a) v m e = assigned_silent (type_of types a) (writable s (place types a s)) (Some v) m e
  given_silent (target.Declared y) v m e = assigned_silent (types.typing.variable y) (writable s (variable_place y s)) (Some v) m e

  freed_silent : (v : Value) (m : Made) → freed_at s.memory v ≡ Some m → m.returned ≡ None
  freed_silent (Number z) m e = none_there e
  freed_silent Null m e = ap (λ (x : Made). x.returned) (sym (some_same e))
  freed_silent (To q) m e = by_test (can_free s.memory q) e (λ is same. ap (λ (x : Made). x.returned) (sym (some_same same))) (λ is none. none_there none)

  begun_kill : (f x : ℕ) (z : Init) (m : Made) → begun_with types x z s ≡ Some m → IsKill f (Begins x z) m
  begun_kill f x init.None m e = none_there e
  begun_kill f x (init.One a) m e =
      storing_kill f (Begins x (init.One a)) m (whole_overwritten x (types.typing.variable x) (eval types a s) m e) (whole_variables x) (assigned_silent (types.typing.variable x) (writable s (variable_place x s)) (eval types a s) m e)
  begun_kill f x (init.Items es) m e =
      let shape = types.typing.variable x in
      let vs = then_there (λ (ws : List Value). option_and_then (listed_in shape.layers shape.base s.memory ws) (variable_place x s)) (eval_all types es s) m e in
      let q = then_there (listed_in shape.layers shape.base s.memory vs.value) (variable_place x s) m vs.same in
      let l = listed_there shape.layers shape.base s.memory vs.value q.value m q.same in
      storing_kill f (Begins x (init.Items es)) m (list_overwritten x q.value m q.there l) (element_variables x) l.silent

  fetched_kill : (f : ℕ) (to : Target) (m : Made) → option_map taking (given types to (Number (next_byte s.unread)) s) ≡ Some m → IsKill f (Fetches to) m
  fetched_kill f to m e =
      let k = map_there taking (given types to (Number (next_byte s.unread)) s) m e in
      let cells = target_overwritten to (Number (next_byte s.unread)) k.value k.there in
      record {
        cells = λ l x root kl. elim (or_cases (same_location the_input l) (target_kills p points to l) kl) [
          | inl i ↦ no_input l x root i
          | inr t ↦ subst (λ (z : Made). (q : Place) → CanName s x l q ↔ (Contains (cells_of z.stores) q × (location_of s.origins q ≡ Some l))) k.same (cells l x root t)
        ];
        killable = λ l x root kl. elim (or_cases (same_location the_input l) (target_kills p points to l) kl) [
          | inl i ↦ no_input l x root i
          | inr t ↦ one_variable (target_kills p points to) (target_variables to) l x root t
        ];
        input = λ kl. refl;
        result_is = λ kl. let t = target_variables to (result_of f) kl in result_apart f t.0 t.1;
        returned = λ v is. none_there (sym (ap (λ (z : Made). z.returned) (sym k.same) ∙ given_silent to (Number (next_byte s.unread)) k.value k.there) ∙ is);
      }

  allocated_kill : (f : ℕ) (to : Target) (n : Amount) (m : Made) → made types (Allocates to n) s ≡ Some m → IsKill f (Allocates to n) m
  allocated_kill f to n m e =
      let x = given types to (next_block s) s in
      let o = then_there (λ (u : ExprType). option_and_then (begun_for x u) (option_and_then granted (asked_count types n s))) (option_and_then target_of (target_type types to)) m e in
      let g = then_there (begun_for x o.value) (option_and_then granted (asked_count types n s)) m o.same in
      let y = map_there (beginning o.value g.value) x m g.same in
      storing_kill f (Allocates to n) m (subst (Overwritten (target_kills p points to)) y.same (target_overwritten to (next_block s) y.value y.there)) (target_variables to) (ap (λ (z : Made). z.returned) (sym y.same) ∙ given_silent to (next_block s) y.value y.there)

  returned_kill : (f : ℕ) (a : Option Expr) (m : Made) → shown_result types a s ≡ Some m → IsKill f (Returns a) m
  returned_kill f None m e = quiet_kill f (Returns None) m (λ l. refl) (ap (λ (z : Made). z.returned) (sym (some_same e)))
  returned_kill f (Some a) m e =
      let k = map_there returning (option_and_then (as_result types.result) (eval types a s)) m e in
      record {
        cells = λ l x root kl. no_result f l x root kl;
        killable = λ l x root kl. no_result f l x root kl;
        input = λ kl. absurd (false≢true kl);
        result_is = λ kl. ap (λ (z : Made). is_some z.returned) (sym k.same);
        returned = λ v is. its_result f;
      }
    where
      its_result : (g : ℕ) → same_location (result_of g) (result_of g) ≡ true
      its_result g = rw (eq-eqb g g refl) refl

  -- what an act kills it overwrites
  pub act_kill : (f : ℕ) (a : Act) (m : Made) → made types a s ≡ Some m → IsKill f a m
  act_kill f (Begins x z) m e = begun_kill f x z m e
  act_kill f (Sets left op right) m e =
      storing_kill f (Sets left op right) m (left_overwritten left (type_of types left) (right_of types op left right s) m e) (left_variables left) (assigned_silent (type_of types left) (writable s (place types left s)) (right_of types op left right s) m e)
  act_kill f (Bumps left up) m e =
      storing_kill f (Bumps left up) m (left_overwritten left (type_of types left) (bumped types left up s) m e) (left_variables left) (assigned_silent (type_of types left) (writable s (place types left s)) (bumped types left up s) m e)
  act_kill f (Fetches to) m e = fetched_kill f to m e
  act_kill f (Writes a) m e =
      quiet_kill f (Writes a) m (λ l. refl) (mapped_silent (λ (v : Value). put_out (convert (tested v) UChar)) (eval types a s) m (λ v. refl) e)
  act_kill f (Prints format args) m e = quiet_kill f (Prints format args) m (λ l. refl) (mapped_silent (printed_all format) (eval_all types args s) m (λ v. refl) e)
  act_kill f (Allocates to n) m e = allocated_kill f to n m e
  act_kill f (Frees a) m e =
      let v = then_there (freed_at s.memory) (eval types a s) m e in quiet_kill f (Frees a) m (λ l. refl) (freed_silent v.value m v.same)
  act_kill f (Returns a) m e = returned_kill f a m e
  act_kill f (Tests a) m e =
      quiet_kill f (Tests a) m (λ l. refl) (mapped_silent (λ (v : Value). shows (Number (tested v) ∷ []) []) (eval types a s) m (λ v. refl) e)
