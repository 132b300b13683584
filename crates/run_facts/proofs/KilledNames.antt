-- What a statement kills at a location of a variable it finds by the variable's name: the activation that runs can name the variable.
use Rattle.std.proofs.Common.{◌≡◌, ℕ, List, Option, Some, None, true, inl, inr, refl, sym, ap, ◌∙◌, subst}
use Rattle.std.specs.Prelude.{option_and_then}
use Rattle.std.proofs.lemmas.Bool.{false≢true, and_parts, or_cases}
use Rattle.c_language.proofs.Options.{none_there, map_there, then_there}
use Rattle.c_tree.specs.declared.expr.Expr.{Expr}
use Rattle.c_tree.specs.declared.program.Init.TheVariants as init
use Rattle.c_tree.specs.declared.program.Program.{Program}
use Rattle.c_tree.specs.declared.statement.Target.{Target}
use Rattle.c_tree.specs.declared.statement.Target.TheVariants as target
use Rattle.c_language.specs.Code.{Act, Begins, Sets, Bumps, Fetches, Writes, Prints, Allocates, Frees, Returns, Tests}
use Rattle.c_language.specs.declared.expr_type.ExprType.{ExprType}
use Rattle.c_language.specs.ExprTypes.{target_of}
use Rattle.c_language.specs.TreeTypes.{typing_of}
use Rattle.c_meaning.specs.declared.value.Place.{Place}
use Rattle.c_meaning.specs.declared.value.Value.{Value}
use Rattle.c_meaning.specs.declared.value.Value.TheVariants.{Number}
use Rattle.c_meaning.specs.Values.{Types, State, whole, variable_place, eval, eval_all, type_of, place}
use Rattle.c_meaning.specs.Acts.{Made, if_cell, writable, assigned, right_of, bumped, listed_in, given, next_byte, taking, asked_count, granted, beginning, next_block, begun_for, target_type, made}
use Rattle.dep_model.specs.declared.location.Location.{Location}
use Rattle.dep_model.specs.declared.location.Root.{Root}
use Rattle.dep_model.specs.declared.location.Root.TheVariants.{Variable}
use Rattle.dep_model.specs.Denoted.{Places, TargetsOf, expr_places}
use Rattle.dep_model.specs.Designated.{designated}
use Rattle.dep_model.specs.DoingEffects.{the_input, is_killable, named_kills, left_kills, target_kills, act_kills}
use Rattle.dep_model.specs.Locations.{same_location}
use Rattle.run_facts.specs.TypedStates.{IsTypedState}
use Rattle.run_facts.proofs.ActKills.{no_input, no_result, whole_kills, whole_root, element_kills, element_root}
use Rattle.run_facts.proofs.AssignedValues.{assigned_there}
use Rattle.run_facts.proofs.SelectedPlaces.{selected_from}

-- a location is of one variable
pub same_variable : (x y : ℕ) (root : Root) → root ≡ Variable x → root ≡ Variable y → x ≡ y
same_variable x y root e k = let both : ◌≡◌ {A = Root} (Variable x) (Variable y) = sym e ∙ k in cc

module _ (p : Program) (points : TargetsOf) (s : State) (typed : IsTypedState p points s) (result : Option ExprType) where
  abbrev types : Types
  types = record { typing = typing_of p; result = result }

  -- where one of these locations is that of a variable, the variable has a block
  abbrev pub AreNamed : Places → Type 0
  AreNamed kills = (l : Location) (x : ℕ) → l.root ≡ Variable x → kills l ≡ true → (b : ℕ) × (s.frame x ≡ Some b)

  -- one variable, whose object is found
  found_named : (x y : ℕ) (l : Location) (q : Place) → l.root ≡ Variable y → l.root ≡ Variable x → variable_place y s ≡ Some q → (b : ℕ) × (s.frame x ≡ Some b)
  found_named x y l q is root found =
      let b = map_there whole (s.frame y) q found in
      (b.value, subst (λ z. s.frame z ≡ Some b.value) (same_variable y x l.root is root) b.there)

  left_named : (e : Expr) (t : ExprType) (v : Option Value) (m : Made) → assigned t (writable s (place types e s)) v ≡ Some m → AreNamed (left_kills p points e)
  left_named e t v m h l x root = by_name (designated p e).name refl
    where
      by_name : (o : Option ℕ) → (designated p e).name ≡ o → named_kills p points o (expr_places p points e) l ≡ true → (b : ℕ) × (s.frame x ≡ Some b)
      by_name None is kl = absurd (false≢true kl)
      by_name (Some y) is kl =
          let k = selected_from p points result e y is in
          let a = assigned_there t (writable s (place types e s)) v m h in
          let q = then_there (if_cell s.memory) (place types e s) a.place a.place_is in
          let its = ap (λ (z : Location). z.root) (k.location_is l (and_parts (is_killable p y) (expr_places p points e l) kl).1) in
          (q.value.block, subst (λ z. s.frame z ≡ Some q.value.block) (same_variable y x l.root its root) (k.block_is s q.value q.there))

  whole_named : (y : ℕ) (t : ExprType) (v : Option Value) (m : Made) → assigned t (writable s (variable_place y s)) v ≡ Some m → AreNamed (whole_kills p points s typed result y)
  whole_named y t v m h l x root kl =
      let a = assigned_there t (writable s (variable_place y s)) v m h in
      let q = then_there (if_cell s.memory) (variable_place y s) a.place a.place_is in
      found_named x y l q.value (whole_root p points s typed result y l kl) root q.there

  -- where the value of a call goes
  pub target_named : (to : Target) (v : Value) (m : Made) → given types to v s ≡ Some m → AreNamed (target_kills p points to)
  target_named target.None v m h l x root kl = absurd (false≢true kl)
  target_named (target.Place e) v m h l x root kl = left_named e (type_of types e) (Some v) m h l x root kl
  target_named (target.Declared y) v m h l x root kl = whole_named y (types.typing.variable y) (Some v) m h l x root kl

  begun_named : (x y : ℕ) (l : Location) (q : Place) → element_kills p points s typed result y l ≡ true → l.root ≡ Variable x → variable_place y s ≡ Some q → (b : ℕ) × (s.frame x ≡ Some b)
  begun_named x y l q kl root found = found_named x y l q (element_root p points s typed result y l kl) root found

  -- what an act kills
  pub act_named : (f : ℕ) (a : Act) (m : Made) → made types a s ≡ Some m → AreNamed (act_kills p points f a)
  act_named f (Begins y init.None) m e l x root kl = none_there e
  act_named f (Begins y (init.One a)) m e l x root kl = whole_named y (types.typing.variable y) (eval types a s) m e l x root kl
  act_named f (Begins y (init.Items es)) m e l x root kl =
      let shape = types.typing.variable y in
      let vs = then_there (λ (ws : List Value). option_and_then (listed_in shape.layers shape.base s.memory ws) (variable_place y s)) (eval_all types es s) m e in
      let q = then_there (listed_in shape.layers shape.base s.memory vs.value) (variable_place y s) m vs.same in
      begun_named x y l q.value kl root q.there
  act_named f (Sets left op right) m e l x root kl = left_named left (type_of types left) (right_of types op left right s) m e l x root kl
  act_named f (Bumps left up) m e l x root kl = left_named left (type_of types left) (bumped types left up s) m e l x root kl
  act_named f (Fetches to) m e l x root kl =
      let k = map_there taking (given types to (Number (next_byte s.unread)) s) m e in
      elim (or_cases (same_location the_input l) (target_kills p points to l) kl) [
        | inl i ↦ no_input l x root i
        | inr t ↦ target_named to (Number (next_byte s.unread)) k.value k.there l x root t
      ]
  act_named f (Writes a) m e l x root kl = absurd (false≢true kl)
  act_named f (Prints format args) m e l x root kl = absurd (false≢true kl)
  act_named f (Allocates to n) m e l x root kl =
      let given_ = given types to (next_block s) s in
      let o = then_there (λ (u : ExprType). option_and_then (begun_for given_ u) (option_and_then granted (asked_count types n s))) (option_and_then target_of (target_type types to)) m e in
      let g = then_there (begun_for given_ o.value) (option_and_then granted (asked_count types n s)) m o.same in
      let y = map_there (beginning o.value g.value) given_ m g.same in
      target_named to (next_block s) y.value y.there l x root kl
  act_named f (Frees a) m e l x root kl = absurd (false≢true kl)
  act_named f (Returns None) m e l x root kl = absurd (false≢true kl)
  act_named f (Returns (Some a)) m e l x root kl = no_result f l x root kl
  act_named f (Tests a) m e l x root kl = absurd (false≢true kl)
