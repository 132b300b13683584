-- A kept act comes to the same in a slice where what it may use agrees.
use Rattle.std.proofs.Common.{◌≡◌, ℕ, ◌<◌, List, [], ◌∷◌, length, map, Option, Some, None, Bool, true, inl, inr, refl, sym, ap, ap₂, ◌∙◌, subst}
use Rattle.std.specs.Prelude.{Contains, option_map, is_some, slice_get}
use Rattle.c_language.specs.Code.{Act, Code}
use Rattle.c_meaning.specs.declared.value.Hop.{Hop}
use Rattle.c_meaning.specs.declared.value.Value.{Value}
use Rattle.c_meaning.specs.Memory.{is_cell}
use Rattle.c_meaning.specs.Values.{Types, Origin, OfVariable, OfStatement, State, shown_of}
use Rattle.c_meaning.specs.Acts.{Store, Request, Made, made, after, with_begun, origins_after}
use Rattle.c_meaning.specs.Activations.{executable, types_in, result_at}
use Rattle.c_meaning.specs.Steps.{Point}
use Rattle.dep_model.specs.declared.location.Location.{Location}
use Rattle.dep_model.specs.declared.location.Root.TheVariants.{Variable}
use Rattle.dep_model.specs.declared.vertex.VertexKind.{VertexKind}
use Rattle.dep_model.specs.declared.vertex.VertexKind.TheVariants.{Statement as ActOf}
use Rattle.dep_model.specs.Doings as doing
use Rattle.dep_model.specs.Doings.{Doing, doings_of}
use Rattle.dep_model.specs.DoingEffects.{the_input, result_of, is_killable, act_kills}
use Rattle.dep_model.specs.ModRef.{is_outside}
use Rattle.dep_model.specs.VertexOrder.{statement_kills, kind_uses}
use Rattle.dep_model.proofs.Membership.{IsIn, in_of_contains, contains_of_in}
use Rattle.simulation.specs.Agreeing.{Agree}
use Rattle.simulation.specs.Premises.{Performed}
use Rattle.simulation.specs.Renaming.{World, AlikeValue, number, null, pointer, cell_at, Names, AlikeAt}
use Rattle.run_facts.specs.CellLocations.{location_in, location_of}
use Rattle.run_facts.specs.Counting.{Counts}
use Rattle.run_facts.specs.Effects.{Touch}
use Rattle.run_facts.specs.Effects as effects
use Rattle.run_facts.specs.ReadCells.{act_read, reads_input}
use Rattle.run_facts.specs.NextSteps.{Does, next_of}
use Rattle.run_facts.specs.Touching.{MayUse}
use Rattle.run_facts.proofs.Blocks.{grows_after}
use Rattle.run_facts.proofs.KeptMemories.{leave_keeps, begun_keeps}
use Rattle.run_facts.proofs.KilledNames.{act_named}
use Rattle.run_facts.proofs.Points.{IsSound, sound_run}
use Rattle.run_facts.proofs.Statements.{bodies}
use Rattle.run_facts.proofs.TypedRuns.{typed_run}
use Rattle.simulation.specs.Settings.{Statement, Reached}
use Rattle.simulation_locations.specs.Chained.{slicing_over}
use Rattle.simulation_locations.specs.Wanted.{IsWanted}
use Rattle.simulation_places.specs.Counterparts.{names_of}
use Rattle.simulation_places.specs.ProjectedCode.{renamed_act}
use Rattle.simulation_places.proofs.Projecting.{projects_as}
use Rattle.simulation_steps.proofs.Outcomes.{AlikeList, nil, cons, AlikeMade, world_with, HoldAlike, CellsStand, StatesStand, SameResult}
use Rattle.simulation_steps.proofs.StandingObjects.{Comes, came}
use Rattle.simulation_steps.proofs.Acts.{acts_come_together}
use Rattle.simulation_steps.proofs.DoneTogether as done
use Rattle.simulation_steps.proofs.DoneTogether.{AreReady, before_stores, prepared, done_together}
use Rattle.simulation_steps.proofs.GrownLists.{within}
use Rattle.simulation_steps.proofs.KilledLocations.{IsKilled, in_variable, of_input, of_result, act_killed}
use Rattle.simulation_steps.proofs.KilledTogether.{made_by, counted_named, killed_over, place_in}
use Rattle.simulation_steps.proofs.OverwrittenTogether.{input_over, result_over}
use Rattle.simulation_steps.proofs.TouchedActs.{s, Mine, sound_at, member, here as doing_here, act_touching}
use Rattle.simulation_steps.proofs.TouchedReads.{reads_alike}
use Rattle.simulation_steps.proofs.WholeBlocks.{new_or_old, run_whole, cells_stand}
use Rattle.simulation_steps.specs.SlicePairs.{SlicePair, twin_of}

-- ---- values

shown_same : (w : World) (v u : Value) → AlikeValue w v u → shown_of v ≡ shown_of u
shown_same w v u number = refl
shown_same w v u null = refl
shown_same w v u (pointer e) = refl

pub shown_list : (w : World) (vs us : List Value) → AlikeList (AlikeValue w) vs us → map shown_of vs ≡ map shown_of us
shown_list w vs us nil = refl
shown_list w vs us (cons {a = v} {b = u} {as_ = xs} {bs = ys} e h) = ap₂ (λ x y. x ∷ y) (shown_same w v u e) (shown_list w xs ys h)

same_act : (i j : ℕ) (act other : Act) (go on : Made → Code) → Does i act go ≡ Does j other on → act ≡ other
same_act i j act other go on e = cc

-- ---- blocks of variables, and what is stored

-- a block of a variable isn't the one that malloc makes
old_variable : (i z b : ℕ) (o : Option Request) (os : List Origin) → slice_get (origins_after i o os) b ≡ Some (OfVariable z) → slice_get os b ≡ Some (OfVariable z)
old_variable i z b None os e = e
old_variable i z b (Some r) os e = elim (new_or_old (OfStatement i) (OfVariable z) os b e) [ inl old ↦ old | inr new ↦ absurd (apart new) ]
  where
    apart : OfStatement i ≡ OfVariable z → ⊥
    apart q = cc

module _ (pair : SlicePair) (holds : ℕ → Type 0) (x : Point) (reached : Reached (s pair holds) x) (i : ℕ) (act : Act) (go : Made → Code) (next : next_of x.rest ≡ Does i act go) where
  abbrev f : ℕ
  f = x.function

  abbrev m : State
  m = x.state

  abbrev types : Types
  types = types_in (executable pair.original) f

  abbrev d : Doing
  d = doing.Does i act

  kills_it : (l : Location) → (s pair holds).kills (Statement f i) l ≡ true → act_kills pair.original pair.analysis.points f act l ≡ true
  kills_it l u = subst (λ (o : Option Doing). statement_kills pair.original pair.analysis.points f o l ≡ true) (doing_here pair holds x reached i act go next) u

  -- what the statement's vertex may use
  uses_it : (l : Location) → MayUse pair.original pair.analysis f d l → (s pair holds).uses (Statement f i) l ≡ true
  uses_it l k =
      of_vertex k.vertex (in_of_contains (ActOf i ∷ []) k.vertex k.use_is.of_statement) k.use_is.used
    where
      of_vertex : (z : VertexKind) → IsIn (ActOf i ∷ []) z → kind_uses pair.original pair.analysis.points f z l ≡ true → (s pair holds).uses (Statement f i) l ≡ true
      of_vertex z (inl e) h = subst (λ (q : VertexKind). kind_uses pair.original pair.analysis.points f q l ≡ true) (sym e) h
      of_vertex z (inr h) q = absurd h

  -- ---- and of the slice

  module _ (w : World) (y : Point) (b : Act) (onward : Made → Code) (v : Made) (agree : Agree (s pair holds) w x y) (keeps : (s pair holds).kept (Statement f i) ≡ true) (next_there : next_of y.rest ≡ Does (pair.new.statement i) b onward) (uses : (l : Location) → (s pair holds).uses (Statement f i) l ≡ true → (s pair holds).Same w l m y.state) (made_is : made types act m ≡ Some v) where
    abbrev n : State
    n = y.state

    abbrev names : Names
    names = names_of pair.kept pair.new

    abbrev outside : Location → Bool
    outside = is_outside pair.original

    abbrev there : Types
    there = types_in (executable pair.slice) y.function

    its : Mine pair holds f d
    its = member pair holds x reached i act go next

    keeps_statement : pair.kept.statement i ≡ true
    keeps_statement = pair.projected.acts f i act (contains_of_in (doings_of pair.original f) d its) ∙ keeps

    act_is : renamed_act pair.new.variable act ≡ b
    act_is =
        let t = (projects_as pair.kept pair.new x.rest (Does i act go) next).kept keeps_statement in
        same_act (pair.new.statement i) (pair.new.statement i) (renamed_act pair.new.variable act) b t.onward onward (sym t.next_is ∙ (ap next_of (sym agree.rest_is) ∙ next_there))

    stand : StatesStand names w types there m n
    stand = record { blocks = agree.blocks; frames = agree.frames; types_are = record { variables = λ z h. pair.acts.types_are z h; members = pair.acts.members_are } }

    sound_there : IsSound (executable pair.slice) (λ g e. IsIn (doings_of pair.slice g) e) y
    sound_there = sound_run (executable pair.slice) (λ g e. IsIn (doings_of pair.slice g) e) (bodies pair.slice) pair.input y agree.reached_there

    ready : AreReady names w m n
    ready = record {
      blocks = agree.blocks;
      frames = agree.frames;
      tracked = (sound_at pair holds x reached).placed.tracked;
      tracked_there = sound_there.placed.tracked;
      whole = run_whole (executable pair.original) pair.input x reached;
      whole_there = run_whole (executable pair.slice) pair.input y agree.reached_there;
    }

    cells : CellsStand w m n
    cells = cells_stand names w m n ready.whole ready.whole_there agree.blocks

    same_result : SameResult types there act
    same_result e is =
        let mine = subst (λ (z : Act). Contains (doings_of pair.original f) (doing.Does i z)) is (contains_of_in (doings_of pair.original f) d its) in
        ap (result_at (executable pair.slice)) agree.function_is ∙ pair.acts.results_are f i e mine keeps_statement

    reads : HoldAlike w m n (act_read types act m)
    reads =
        reads_alike pair.original pair.analysis names w m n agree.blocks (origins_after i v.begun m.origins) (grows_after i v.begun m.origins) (MayUse pair.original pair.analysis f d) (λ l u. uses l (uses_it l u)) (act_read types act m) (act_touching pair holds x reached i act go next v made_is).touches.reads_are

    unread_same : reads_input act ≡ true → m.unread ≡ n.unread
    unread_same r = (uses the_input (uses_it the_input ((act_touching pair holds x reached i act go next v made_is).touches.input_is r).0)).input refl

    abbrev grown : World
    grown = world_with w (length m.memory.blocks) v.begun

    abbrev Outcomes : Made → Made → Type 0
    Outcomes z u = AlikeMade (world_with w (length m.memory.blocks) z.begun) z u

    outcome : Comes Outcomes v (made there (renamed_act pair.new.variable act) n)
    outcome =
        came Outcomes (made types act m) (made there (renamed_act pair.new.variable act) n) v ((acts_come_together names w types there m n stand cells).acts act (λ z named. pair.acts.names_kept f i z act (contains_of_in (doings_of pair.original f) d its) keeps_statement named) same_result reads unread_same) made_is

    -- the states in which the stores are done
    abbrev at_ : State
    at_ = before_stores i v m

    abbrev at_there : State
    at_there = before_stores (pair.new.statement i) outcome.value n

    -- ---- what it kills is alike after

    abbrev AlikeAfter : Location → Type 0
    AlikeAfter l = AlikeAt outside grown l (after i v m) (after (pair.new.statement i) outcome.value n)

    -- each live cell of a variable that is killed is stored into
    into : (l : Location) (z : ℕ) → l.root ≡ Variable z → is_killable pair.original z ≡ true → (s pair holds).kills (Statement f i) l ≡ true → (c : ℕ) (path : List Hop) → Counts outside l at_ c → is_cell at_.memory (cell_at c path) ≡ true → location_of at_.origins (cell_at c path) ≡ Some l → IsIn (map (λ (k : Store). k.place) v.stores) (cell_at c path)
    into l z root killable kl c path counts live at =
        let q = cell_at c path in
        let sound = sound_at pair holds x reached in
        let typed = typed_run pair.original pair.analysis.points pair.well pair.analysed.points_are pair.input x reached in
        let after_ = made_by at_.origins z l q at root in
        let before_ = old_variable i z c v.begun m.origins after_ in
        let low : c < length m.memory.blocks = subst (λ k. c < k) sound.placed.tracked (within m.origins c (OfVariable z) before_) in
        let at_before : location_of m.origins q ≡ Some l = ap (option_map (λ (o : Origin). location_in o path)) (before_ ∙ sym after_) ∙ at in
        let live_before : is_cell m.memory q ≡ true = sym (ap is_some (leave_keeps v.freed (with_begun v.begun m.memory) q live ∙ begun_keeps v.begun m.memory q low)) ∙ live in
        let block = act_named pair.original pair.analysis.points m typed.state (result_at (executable pair.original) f) f act v made_is l z root (kills_it l kl) in
        let named = counted_named pair.original pair.own pair.input x reached m.frame sound.placed.named l z block.0 root killable block.1 c path counts at_before in
        let over = ((act_touching pair holds x reached i act go next v made_is).overwrites.cells_are l z root kl q).0 (record { named = named; is_live = live_before; location_is = at_before }) in
        place_in v.stores q (in_of_contains (map (λ (t : Touch). t.cell) (map effects.storing v.stores)) q over.0)

    over : (l : Location) → (s pair holds).kills (Statement f i) l ≡ true → AlikeAfter l
    over l kl =
        let both = prepared names outside w m n ready i v outcome.value outcome.alike in
        let stand_ = done.cells names outside w m n ready i v outcome.value outcome.alike in
        let overwrites = (act_touching pair holds x reached i act go next v made_is).overwrites in
        by_kind (act_killed pair.original pair.analysis.points f act l (kills_it l kl))
        (λ z root killable. killed_over names outside grown at_ at_there both.blocks stand_ v outcome.value outcome.alike l z root (into l z root killable kl))
        (λ r. input_over names outside grown at_ at_there both.blocks stand_ v outcome.value outcome.alike (unread_same (overwrites.input_is r)))
        (λ r. result_over names outside grown at_ at_there both.blocks stand_ v outcome.value outcome.alike f (overwrites.result_is r))
      where
        by_kind : IsKilled pair.original f l → ((z : ℕ) → l.root ≡ Variable z → is_killable pair.original z ≡ true → AlikeAfter l) → ((s pair holds).kills (Statement f i) the_input ≡ true → AlikeAfter the_input) → ((s pair holds).kills (Statement f i) (result_of f) ≡ true → AlikeAfter (result_of f)) → AlikeAfter l
        by_kind (in_variable z root killable) one two three = one z root killable
        by_kind (of_input is) one two three = subst AlikeAfter (sym is) (two (subst (λ (o : Location). (s pair holds).kills (Statement f i) o ≡ true) is kl))
        by_kind (of_result is) one two three = subst AlikeAfter (sym is) (three (subst (λ (o : Location). (s pair holds).kills (Statement f i) o ≡ true) is kl))

    pub performed : Performed (s pair holds) w x y i b v
    performed = record {
      values = outcome.value;
      made_is = ap (λ (z : Act). made there z n) (sym act_is) ∙ outcome.value_is;
      shown = shown_list grown v.values outcome.value.values outcome.alike.values;
      together = done_together (slicing_over pair.original pair.analysis pair.vertices (twin_of pair)) (λ l o. IsWanted pair.original pair.analysis pair.vertices l o) holds w f x.callers ((s pair holds).kills (Statement f i)) m n ready i v outcome.value outcome.alike over;
    }
