-- The state in which a run begins is typed: globals hold zeros and null pointers, and what they begin with.
use Rattle.std.proofs.Common.{◌≡◌, ℕ, List, [], ◌∷◌, Option, Some, None, true, inl, inr, refl, sym, ap, ◌∙◌, subst}
use Rattle.std.specs.Prelude.{option_and_then}
use Rattle.std.specs.List.{list_all}
use Rattle.std.proofs.lemmas.Bool.{false≢true, and_parts}
use Rattle.c_language.proofs.Options.{none_there, then_there}
use Rattle.c_tree.specs.declared.program.Init.{Init}
use Rattle.c_tree.specs.declared.program.Init.TheVariants as init
use Rattle.c_tree.specs.declared.program.Item.{Item}
use Rattle.c_tree.specs.declared.program.Item.TheVariants as item
use Rattle.c_tree.specs.declared.program.Program.{Program}
use Rattle.c_language.specs.declared.expr_type.Base.{Base}
use Rattle.c_language.specs.declared.expr_type.Layer.{Layer}
use Rattle.c_language.specs.declared.expr_type.Layer.TheVariants as layer
use Rattle.c_language.specs.declared.expr_type.ExprType.{ExprType}
use Rattle.c_meaning.specs.declared.value.Place.{Place}
use Rattle.c_meaning.specs.declared.value.Value.{Value}
use Rattle.c_meaning.specs.Memory.{Memory}
use Rattle.c_meaning.specs.Values.{Types, State, variable_place, eval, eval_all}
use Rattle.c_meaning.specs.Acts.{Made, Request, writable, list_stores, all_as, storing_all, listed_in, begun_with}
use Rattle.c_meaning.specs.Activations.{Global, Executable, globals_in, executable, outside, blank, global_opened, global_begun, initialised, all_begun, opening}
use Rattle.dep_model.specs.declared.location.Location.{Location}
use Rattle.dep_model.specs.Denoted.{TargetsOf}
use Rattle.dep_model.specs.LocationLists.{AreStructsInOrder}
use Rattle.dep_model.specs.MayPoint.{Pointing, init_pointings, item_pointings, of_global, by, IsPointsTo}
use Rattle.dep_model.proofs.Membership.{IsIn, contains_of_in}
use Rattle.run_facts.specs.TypedStates.{IsTypedState}
use Rattle.run_facts.proofs.AssignedValues.{assigned_there}
use Rattle.run_facts.proofs.ExprsDenoted.{AreShapes}
use Rattle.run_facts.proofs.FixedValues.{init_none}
use Rattle.run_facts.proofs.TypedActs.{stored_all_there, begun_fit}
use Rattle.run_facts.proofs.TypedParts.{variable_below}
use Rattle.run_facts.proofs.TypedStores.{AreFit, begun_state, stored_typed, recast_typed}
use Rattle.run_facts.proofs.ZeroBlocks.{global_typed}
use Rattle.typed_programs.specs.FixedValues.{begins_fixed}
use Rattle.typed_programs.specs.TreeOperands.{declarations, variable_shape}
use Rattle.typed_programs.specs.TypedStatements.{begins_with, begins, item_fits, IsTyped}
use Rattle.typed_programs.proofs.TypedUses.{holds_there}

-- ---- no initialiser begins a block

list_plain : (ls : List Layer) (b : Base) (mem : Memory) (vs : List Value) (q : Place) (m : Made) → listed_in ls b mem vs q ≡ Some m → m.begun ≡ None
list_plain [] b mem vs q m e = none_there e
list_plain (layer.Pointer ∷ ls) b mem vs q m e = none_there e
list_plain (layer.Array n ∷ ls) b mem vs q m e =
    let t : ExprType = record { layers = ls; base = b } in
    let ws = then_there (λ (us : List Value). storing_all mem n us (list_stores q t 0 n us)) (all_as t vs) m e in
    ap (λ (x : Made). x.begun) (sym (stored_all_there mem n ws.value (list_stores q t 0 n ws.value) m ws.same))

init_plain : (types : Types) (x : ℕ) (i : Init) (s : State) (m : Made) → begun_with types x i s ≡ Some m → m.begun ≡ None
init_plain types x init.None s m e = none_there e
init_plain types x (init.One a) s m e =
    let k = assigned_there (types.typing.variable x) (writable s (variable_place x s)) (eval types a s) m e in ap (λ (z : Made). z.begun) (sym k.same)
init_plain types x (init.Items es) s m e =
    let t = types.typing.variable x in
    let vs = then_there (λ (ws : List Value). option_and_then (listed_in t.layers t.base s.memory ws) (variable_place x s)) (eval_all types es s) m e in
    let q = then_there (listed_in t.layers t.base s.memory vs.value) (variable_place x s) m vs.same in
    list_plain t.layers t.base s.memory vs.value q.value m q.same

returned_begun : (p : Executable) (gs : List Global) (s : State) → (all_begun p gs s).returned ≡ s.returned
returned_begun p [] s = refl
returned_begun p (g ∷ gs) s = returned_begun p gs (global_begun p g s)

module _ (p : Program) (order : AreStructsInOrder p) (shapes : AreShapes p) (points : TargetsOf) (exact : IsPointsTo p points) where
  abbrev e : Executable
  e = executable p

  -- what the rules say of a global, and that its pairs hold of points-to
  pub record IsFitGlobal (g : Global) : Type 0 where
    pub fits : begins (declarations p) g.variable g.init ≡ true
    pub fixed : begins_fixed g.init ≡ true
    pub pairs : (z : Pointing) → IsIn (init_pointings p points g.variable g.init) z → (l m : Location) → z.into l ≡ true → z.from m ≡ true → points l m ≡ true

  abbrev AreFitGlobals : List Global → Type 0
  AreFitGlobals [] = Unit {0}
  AreFitGlobals (g ∷ gs) = IsFitGlobal g × AreFitGlobals gs

  item_fit : (x : ℕ) (i : Init) → IsIn p.items (item.Global x i) → item_fits (declarations p) (item.Global x i) ≡ true → IsFitGlobal (record { variable = x; init = i })
  item_fit x i member h =
      let k = and_parts (begins (declarations p) x i) (begins_fixed i) h in
      record {
        fits = k.0;
        fixed = k.1;
        pairs = λ z c l m into from.
            (exact l m).1
            (by points z (λ a b q. (exact a b).0 q)
            (of_global (item.Global x i) (contains_of_in p.items (item.Global x i) member) (contains_of_in (item_pointings p points (item.Global x i)) z c)) into from);
      }

  items_fit : (is : List Item) → ((i : Item) → IsIn is i → IsIn p.items i) → list_all (item_fits (declarations p)) is ≡ true → AreFitGlobals (globals_in is)
  items_fit [] among h = tt
  items_fit (item.Include b ∷ is) among h = items_fit is (λ i c. among i (inr c)) (and_parts true (list_all (item_fits (declarations p)) is) h).1
  items_fit (item.Tag s ∷ is) among h = items_fit is (λ i c. among i (inr c)) (and_parts true (list_all (item_fits (declarations p)) is) h).1
  items_fit (item.Struct s ∷ is) among h = items_fit is (λ i c. among i (inr c)) (and_parts true (list_all (item_fits (declarations p)) is) h).1
  items_fit (item.Global x i ∷ is) among h =
      let k = and_parts (item_fits (declarations p) (item.Global x i)) (list_all (item_fits (declarations p)) is) h in
      (item_fit x i (among (item.Global x i) (inl refl)) k.0, items_fit is (λ j c. among j (inr c)) k.1)
  items_fit (item.Prototype f names is_static ∷ is) among h = items_fit is (λ i c. among i (inr c)) (and_parts true (list_all (item_fits (declarations p)) is) h).1
  items_fit (item.Define f ∷ is) among h = items_fit is (λ i c. among i (inr c)) (and_parts true (list_all (item_fits (declarations p)) is) h).1

  -- ---- one global after another

  abbrev Never : Value → Type 0
  Never v = ⊥

  module _ (g : Global) (fit : IsFitGlobal g) (s : State) (typed : IsTypedState p points s) where
    abbrev opened : State
    opened = global_opened e g.variable s

    opened_so : IsTypedState p points opened
    opened_so =
        let t = holds_there (begins_with (declarations p) g.init) (variable_shape (declarations p) g.variable) fit.fits in
        global_typed p order points e g.variable s typed (record { below = variable_below p g.variable t.0 t.1; shape_is = refl })

    initialised_so : (o : Option Made) → begun_with (outside e) g.variable g.init opened ≡ o → IsTypedState p points (initialised o opened)
    initialised_so None is = opened_so
    initialised_so (Some m) is =
        let none = init_plain (outside e) g.variable g.init opened m is in
        let made = begun_fit p order shapes points opened opened_so None Never 0 g.variable g.init fit.pairs fit.fits (λ x h. absurd (false≢true (sym (init_none p g.init fit.fixed x) ∙ h))) m is in
        stored_typed p points order m.stores opened opened_so (subst (λ (o : Option Request). AreFit p points (begun_state p points 0 opened o) m.stores) none made.stores)

    global_so : IsTypedState p points (global_begun e g s)
    global_so = initialised_so (begun_with (outside e) g.variable g.init opened) refl

  all_so : (gs : List Global) → AreFitGlobals gs → (s : State) → IsTypedState p points s → IsTypedState p points (all_begun e gs s)
  all_so [] fit s typed = typed
  all_so (g ∷ gs) fit s typed = all_so gs fit.1 (global_begun e g s) (global_so g fit.0 s typed)

  blank_typed : IsTypedState p points (blank e)
  blank_typed = record {
    structs_are = refl;
    tracked = refl;
    named = λ x b h. none_there h;
    blocks = λ n o b made there. none_there made;
    cells = λ q v t o r h made. none_there made;
  }

  module _ (typed : IsTyped p) (input : List ℕ) where
    abbrev begun : State
    begun = all_begun e e.globals (blank e)

    -- where main begins
    pub opening_typed : IsTypedState p points (opening e input)
    opening_typed =
        let all = all_so e.globals (items_fit p.items (λ i c. c) typed.globals) (blank e) blank_typed in
        recast_typed begun begun.frame begun.returned input p points all all.named

    pub opening_silent : (opening e input).returned ≡ None
    opening_silent = returned_begun e e.globals (blank e)
