-- An act that isn't kept leaves what is wanted after it.
use Rattle.std.proofs.Common.{◌≡◌, ℕ, List, [], ◌∷◌, Option, Some, None, Bool, true, false, inl, inr, refl, sym, ap, ◌∙◌, subst}
use Rattle.std.specs.Prelude.{Contains, option_map, slice_get}
use Rattle.std.specs.Option.{option_or}
use Rattle.std.proofs.lemmas.Bool.{false≢true}
use Rattle.std.proofs.lemmas.List.Elements.{All-contains}
use Rattle.c_language.proofs.Options.{none_there, some_same}
use Rattle.c_language.specs.Code.{Act, Code}
use Rattle.c_meaning.specs.declared.value.Place.{Place}
use Rattle.c_meaning.specs.declared.value.Value.{Value}
use Rattle.c_meaning.specs.Memory.{is_cell}
use Rattle.c_meaning.specs.Values.{Origin, State}
use Rattle.c_meaning.specs.Acts.{Made, made, after, origins_after}
use Rattle.c_meaning.specs.Steps.{Point}
use Rattle.dep_model.specs.declared.location.Location.{Location}
use Rattle.dep_model.specs.declared.vertex.VertexKind.{VertexKind}
use Rattle.dep_model.specs.declared.vertex.VertexKind.TheVariants.{Statement as ActOf}
use Rattle.dep_model.specs.Doings as doing
use Rattle.dep_model.specs.Doings.{Doing}
use Rattle.dep_model.specs.DoingEffects.{the_input, result_of, act_defines}
use Rattle.dep_model.specs.ModRef.{is_outside}
use Rattle.dep_model.specs.VertexOrder.{statement_defines, kind_defines}
use Rattle.dep_model.proofs.Membership.{IsIn, in_of_contains}
use Rattle.dep_model.proofs.StructOrder.{well_formed_in_order}
use Rattle.run_facts.specs.CellLocations.{location_in, location_of}
use Rattle.run_facts.specs.Effects.{Touch}
use Rattle.run_facts.specs.KeptCells.{IsSameCell}
use Rattle.run_facts.specs.NextSteps.{Does, next_of}
use Rattle.run_facts.specs.ReadCells.{reads_input}
use Rattle.run_facts.specs.Touching.{MayDefine, MayStore, IsTouched}
use Rattle.run_facts.proofs.Blocks.{grows_after, get_grown}
use Rattle.run_facts.proofs.CellPlaces.{same_back, one_place}
use Rattle.run_facts.proofs.TypedRuns.{typed_run}
use Rattle.simulation.specs.Renaming.{World, BlocksStand, AlikeAt}
use Rattle.simulation.specs.Settings.{Reached}
use Rattle.simulation_places.specs.Counterparts.{names_of}
use Rattle.simulation_steps.proofs.AlikeOn.{Leaves, alike_on}
use Rattle.simulation_steps.proofs.KeptOutlines.{keeps_after}
use Rattle.simulation_steps.proofs.TouchedActs.{s, types, here, act_touching, act_rest, effect}
use Rattle.simulation_steps.specs.SlicePairs.{SlicePair}

module _ (pair : SlicePair) (holds : ℕ → Type 0) (x : Point) (reached : Reached (s pair holds) x) (i : ℕ) (act : Act) (go : Made → Code) (next : next_of x.rest ≡ Does i act go) where
  abbrev f : ℕ
  f = x.function

  abbrev m : State
  m = x.state

  abbrev d : Doing
  d = doing.Does i act

  -- what the statement's vertex may define
  defined : (l : Location) → MayDefine pair.original pair.analysis f d l → act_defines pair.original pair.analysis.points f act l ≡ true
  defined l k =
      of_vertex k.vertex (in_of_contains (ActOf i ∷ []) k.vertex k.definition_is.of_statement) k.definition_is.defined
    where
      of_vertex : (z : VertexKind) → IsIn (ActOf i ∷ []) z → kind_defines pair.original pair.analysis.points f z l ≡ true → act_defines pair.original pair.analysis.points f act l ≡ true
      of_vertex z (inl e) h =
          sym (ap (λ (o : Option Doing). statement_defines pair.original pair.analysis.points f o l) (here pair holds x reached i act go next)) ∙ subst (λ (k : VertexKind). kind_defines pair.original pair.analysis.points f k l ≡ true) (sym e) h
      of_vertex z (inr h) k = absurd h

  -- a live cell is at one place
  same_place : (q r : Place) → is_cell m.memory r ≡ true → IsSameCell m.memory q r → r ≡ q
  same_place q r live same =
      let typed = typed_run pair.original pair.analysis.points pair.well pair.analysed.points_are pair.input x reached in
      one_place pair.original (well_formed_in_order pair.original pair.well) m.memory r q typed.state.structs_are live (same_back m.memory q r same)

  module _ (v : Made) (made_is : made (types pair holds x reached i act go next) act m ≡ Some v) (l : Location) (undefined_ : act_defines pair.original pair.analysis.points f act l ≡ false) where
    abbrev os : List Origin
    os = origins_after i v.begun m.origins

    not_defined : (o : Location) → l ≡ o → MayDefine pair.original pair.analysis f d o → ⊥
    not_defined o e k = false≢true (sym undefined_ ∙ (ap (act_defines pair.original pair.analysis.points f act) e ∙ defined o k))

    -- nothing is stored in a cell at the location
    apart : (q : Place) → is_cell m.memory q ≡ true → location_of m.origins q ≡ Some l → (u : Touch) → Contains (effect pair holds x reached i act go next v made_is).stores u → IsSameCell m.memory u.cell q → ⊥
    apart q live at u j cell =
        let t = All-contains (IsTouched pair.original pair.analysis m os (MayStore pair.original pair.analysis f d)) (effect pair holds x reached i act go next v made_is).stores u (act_touching pair holds x reached i act go next v made_is).touches.stores_are j in
        not_defined t.location (same_location t.location (ap (location_of os) (same_place u.cell q live cell) ∙ t.location_is)) t.among
      where
        same_location : (k : Location) → location_of os q ≡ Some k → l ≡ k
        same_location k e = by_origin (slice_get m.origins q.block) refl at
          where
            by_origin : (o : Option Origin) → slice_get m.origins q.block ≡ o → option_map (λ (z : Origin). location_in z q.path) o ≡ Some l → l ≡ k
            by_origin None is h = none_there h
            by_origin (Some o) is h =
                some_same (sym h ∙ (ap (option_map (λ (z : Origin). location_in z q.path)) (sym (get_grown m.origins os q.block o (grows_after i v.begun m.origins) is)) ∙ e))

    input_left : (reads : Bool) → reads_input act ≡ reads → l ≡ the_input → (after i v m).unread ≡ m.unread
    input_left true is e = absurd (not_defined the_input e ((act_touching pair holds x reached i act go next v made_is).touches.input_is is).1)
    input_left false is e = (act_rest pair holds x reached i act go next v made_is).input is

    -- what is returned is the result of the function that runs
    module _ (mine : (g : ℕ) → l ≡ result_of g → g ≡ f) where
      returned_left : (o : Option Value) → v.returned ≡ o → (g : ℕ) → l ≡ result_of g → option_or o m.returned ≡ m.returned
      returned_left None is g e = refl
      returned_left (Some z) is g e =
          absurd (not_defined (result_of f) (e ∙ ap result_of (mine g e)) ((act_touching pair holds x reached i act go next v made_is).touches.result_is z is))

      pub act_left : (w : World) (n : State) → BlocksStand (names_of pair.kept pair.new) w m n → AlikeAt (is_outside pair.original) w l m n → AlikeAt (is_outside pair.original) w l (after i v m) n
      act_left w n stand same =
          alike_on (names_of pair.kept pair.new) (is_outside pair.original) w l m (after i v m) n stand (keeps_after i v m) leaves same
        where
          leaves : Leaves (names_of pair.kept pair.new) (is_outside pair.original) w l m (after i v m)
          leaves = record {
            live = λ q low live. (act_rest pair holds x reached i act go next v made_is).live q low live;
            frames = λ y b root low named. named;
            cells = λ q low live at counts. (act_rest pair holds x reached i act go next v made_is).cells q low live (apart q ((act_rest pair holds x reached i act go next v made_is).live q low live) at);
            input = λ e. input_left (reads_input act) refl e;
            result = λ g e. returned_left v.returned refl g e;
          }
