-- Parameters begin, one after another: those that stay in a program and in its slice, the others in the program alone.
use Rattle.std.proofs.Common.{◌≡◌, ℕ, suc, ◌+◌, ◌<◌, ◌==◌, List, [], ◌∷◌, ◌++◌, length, map, Option, Some, None, Bool, true, false, if◌then◌else◌, inl, inr, refl, sym, ap, ◌∙◌, subst, arith, eqb-true}
use Rattle.std.specs.Prelude.{option_and_then, is_some, slice_get}
use Rattle.std.proofs.lemmas.Option.{same_Some}
use Rattle.c_language.proofs.Options.{none_there, then_there, MadeFrom}
use Rattle.c_language.proofs.Tests.{false_true}
use Rattle.c_language.specs.declared.expr_type.ExprType.{ExprType}
use Rattle.c_meaning.specs.declared.value.Value.{Value}
use Rattle.c_meaning.specs.Memory.{Block, Memory, Entered, held, cell_in, unwritten}
use Rattle.c_meaning.specs.Values.{OfVariable, State, bound, variable_opened, as_type}
use Rattle.c_meaning.specs.Activations.{Executable, outside, parameter_begun, passed}
use Rattle.c_meaning.proofs.Origins.{tracked_parameter}
use Rattle.dep_model.specs.declared.location.Location.{Location}
use Rattle.dep_model.specs.declared.location.Root.TheVariants.{Variable}
use Rattle.dep_model.specs.DoingEffects.{the_input}
use Rattle.projection.specs.Kept.{chosen}
use Rattle.run_facts.specs.Counting.{Counts}
use Rattle.simulation.specs.Renaming.{World, AlikeValue, AlikeCell, empty, Names, of_variable, BothStand, AlikeAt}
use Rattle.simulation.proofs.GrownWorlds.{world_same, world_more, grown_value}
use Rattle.simulation_places.specs.Counterparts.{AreApart}
use Rattle.simulation_steps.proofs.AlikeOn.{Leaves, alike_on}
use Rattle.simulation_steps.proofs.Outlines.{KeepsOutlines}
use Rattle.simulation_steps.proofs.KeptOutlines.{keeps_parameter, blocks_on}
use Rattle.simulation_steps.proofs.Begun.{IsTracked, BothBegun}
use Rattle.simulation_steps.proofs.NewBlocks.{AreTwins, with_one, block_begins, frames_bound, old_named, written_last, both_on}
use Rattle.simulation_steps.proofs.Outcomes.{AlikeList, nil, cons}
use Rattle.simulation_steps.proofs.Closing.{viewed}
use Rattle.simulation_steps.proofs.Passing.{converts, given_block, begun_alike, old_cell}
use Rattle.simulation_steps.proofs.Resuming.{viewed_blocks}

module _ (names : Names) (p q : Executable) (apart : AreApart names) (types_are : (x : ℕ) → names.stays x ≡ true → q.typing.variable (names.variable x) ≡ p.typing.variable x) (out : Location → Bool) (m0 n0 : State) (w0 : World) where
  -- some parameters have begun, since the states m0 and n0, and in a world that was w0
  pub record IsPassing (m n : State) (w : World) : Type 0 where
    pub begun : BothBegun names out w0 w m0 n0 m n
    pub tracked : IsTracked m
    pub tracked_there : IsTracked n

  -- ---- one that doesn't stay

  module _ (m n : State) (w : World) (x : ℕ) (v : Value) (h : IsPassing m n w) where
    abbrev m1 : State
    m1 = parameter_begun p x m v

    -- what is seen of the blocks that were there
    left : (f g : ℕ → Option ℕ) (r : Option Value) (l : Location) → ((y b : ℕ) → g y ≡ Some b → b < length m.memory.blocks → f y ≡ Some b) → Leaves names out w l (viewed f r m) (viewed g r m1)
    left f g r l named = record {
      live = λ k low live. sym (ap is_some (old_cell (p.typing.variable x) v m.memory k low)) ∙ live;
      frames = λ y b root low e. named y b e low;
      cells = λ k low live at counts. ap (option_and_then held) (old_cell (p.typing.variable x) v m.memory k low);
      input = λ e. refl;
      result = λ k e. refl;
    }

    keeps : (f g : ℕ → Option ℕ) (r : Option Value) → KeepsOutlines (viewed f r m) (viewed g r m1)
    keeps f g r = let k = keeps_parameter p x m v in record { structs_are = k.structs_are; each = k.each; new = k.new; origins_are = k.origins_are }

    by_name : names.stays x ≡ false → (y : ℕ) → names.stays y ≡ true → (same : Bool) → (x == y) ≡ same → BothStand names w (if same then Some (length m.memory.blocks) else m.frame y) (n.frame (names.variable y))
    by_name gone y stays true e = false_true (sym gone ∙ (ap names.stays (eqb-true x y e) ∙ stays))
    by_name gone y stays false e = h.begun.frames y stays

    alone_begins : names.stays x ≡ false → BothBegun names out w w m n m1 n
    alone_begins gone = record {
      grows = world_same w;
      blocks = blocks_on names w m m1 n (keeps_parameter p x m v) h.begun.blocks;
      frames = λ y stays. by_name gone y stays (x == y) refl;
      same = λ l a. alike_on names out w l m m1 n h.begun.blocks (keeps_parameter p x m v) (left m.frame m1.frame m.returned l (λ y b e low. old_named m x y b e low)) a;
      others = λ f g r u l a. alike_on names out w l (viewed f r m) (viewed f r m1) (viewed g u n) (viewed_blocks names w m n f g r u h.begun.blocks) (keeps f f r) (left f f r l (λ y b e low. e)) a;
    }

    pub alone : names.stays x ≡ false → IsPassing m1 n w
    alone gone = record {
      begun = both_on names out w0 w w m0 n0 m n m1 n h.begun (alone_begins gone);
      tracked = tracked_parameter p x m v h.tracked;
      tracked_there = h.tracked_there;
    }

  -- ---- one that stays

  module _ (m n : State) (w : World) (x : ℕ) (v z : Value) (stays : names.stays x ≡ true) (alike : AlikeValue w v z) (h : IsPassing m n w) where
    abbrev u : World
    u = w ++ length m.memory.blocks ∷ []

    abbrev name : ℕ → Option ℕ
    name = bound m.frame x (Some (length m.memory.blocks))

    abbrev name_there : ℕ → Option ℕ
    name_there = bound n.frame (names.variable x) (Some (length n.memory.blocks))

    abbrev here : Block
    here = given_block m.memory.structs (p.typing.variable x) v

    abbrev there : ExprType → Block
    there t = given_block n.memory.structs t z

    begun_is : (r : Executable) (y : ℕ) (s : State) (a : Value) → parameter_begun r y s a ≡ with_one (bound s.frame y (Some (length s.memory.blocks))) (given_block s.memory.structs (r.typing.variable y) a) (OfVariable y) s
    begun_is r y s a =
        ap (λ (k : Memory). record (variable_opened (outside r) y s) { memory = k }) (written_last a (unwritten s.memory.structs (r.typing.variable y) Entered) s.memory)

    twins : AreTwins names u m.memory.structs n.memory.structs here (there (q.typing.variable (names.variable x))) (OfVariable x) (OfVariable (names.variable x))
    twins =
        subst (λ t. AreTwins names u m.memory.structs n.memory.structs here (there t) (OfVariable x) (OfVariable (names.variable x))) (sym (types_are x stays)) (record {
          shape_is = refl;
          kind_is = refl;
          gone = λ e. false_true (sym e);
          origins_are = of_variable stays;
          cells = λ path. subst (λ ss. AlikeCell u (option_and_then held (cell_in m.memory.structs path here)) (option_and_then held (cell_in ss path (given_block ss (p.typing.variable x) z)))) h.begun.blocks.structs_are (begun_alike u m.memory.structs (p.typing.variable x) path v z (grown_value w u (world_more w (length m.memory.blocks)) v z alike));
        })

    both_begin : BothBegun names out w u m n (parameter_begun p x m v) (parameter_begun q (names.variable x) n z)
    both_begin =
        subst (λ (s : State). BothBegun names out w u m n s (parameter_begun q (names.variable x) n z)) (sym (begun_is p x m v)) (subst (λ (s : State). BothBegun names out w u m n (with_one name here (OfVariable x) m) s) (sym (begun_is q (names.variable x) n z)) (block_begins names out w m n h.begun.blocks here (there (q.typing.variable (names.variable x))) (OfVariable x) (OfVariable (names.variable x)) twins h.tracked h.tracked_there name name_there (frames_bound names w m n h.begun.blocks.count_is x stays apart h.begun.frames) (λ y c e low. old_named m x y c e low)))

    pub together : IsPassing (parameter_begun p x m v) (parameter_begun q (names.variable x) n z) u
    together = record {
      begun = both_on names out w0 w u m0 n0 m n (parameter_begun p x m v) (parameter_begun q (names.variable x) n z) h.begun both_begin;
      tracked = tracked_parameter p x m v h.tracked;
      tracked_there = tracked_parameter q (names.variable x) n z h.tracked_there;
    }

  -- ---- all of them

  -- the slice's callee begins in a state and a world of its own
  pub record ArePassed (c : State) (o : Option State) : Type 0 where
    pub state : State
    pub passed_is : o ≡ Some state
    pub world : World
    pub passing : IsPassing c state world

  abbrev Passes : (keep : ℕ → Bool) (i : ℕ) (xs : List ℕ) (vs zs : List Value) → Type 0
  Passes keep i xs vs zs =
      (m n c : State) (w : World) → IsPassing m n w → passed p xs vs m ≡ Some c → ArePassed c (passed q (map names.variable (chosen keep i xs)) zs n)

  -- which of the parameters stay
  abbrev pub StayBy : (ℕ → Bool) → ℕ → List ℕ → Type 0
  StayBy keep i xs = (j x : ℕ) → slice_get xs j ≡ Some x → names.stays x ≡ keep (i + j)

  -- the first parameter, where the others are passed so
  first_passed : (keep : ℕ → Bool) (i x : ℕ) (xs : List ℕ) (v : Value) (vs zs : List Value) → names.stays x ≡ keep i → AlikeList (AlikeValue w0) (chosen keep i (v ∷ vs)) zs → ((us : List Value) → AlikeList (AlikeValue w0) (chosen keep (suc i) vs) us → Passes keep (suc i) xs vs us) → Passes keep i (x ∷ xs) (v ∷ vs) zs
  first_passed keep i x xs v vs zs stays alike rest m n c w h e =
      let k = then_there (λ (z : Value). passed p xs vs (parameter_begun p x m z)) (as_type (p.typing.variable x) v) c e in
      by_test (keep i) refl alike k
    where
      both_pass : names.stays x ≡ true → (us : List Value) → AlikeList (AlikeValue w0) (v ∷ chosen keep (suc i) vs) us → MadeFrom (as_type (p.typing.variable x) v) (λ (z : Value). passed p xs vs (parameter_begun p x m z)) (Some c) → ArePassed c (passed q (names.variable x ∷ map names.variable (chosen keep (suc i) xs)) us n)
      both_pass stay us (cons {b = z} {bs = zs} a as_) k =
          let o = converts w (p.typing.variable x) v z k.value (grown_value w0 w h.begun.grows v z a) k.there in
          let there : as_type (q.typing.variable (names.variable x)) z ≡ Some o.value = ap (λ t. as_type t z) (types_are x stay) ∙ o.value_is in
          let more = rest zs as_ (parameter_begun p x m k.value) (parameter_begun q (names.variable x) n o.value) c (w ++ length m.memory.blocks ∷ []) (together m n w x k.value o.value stay o.alike h) k.same in
          record {
            state = more.state;
            passed_is = ap (option_and_then (λ (y : Value). passed q (map names.variable (chosen keep (suc i) xs)) zs (parameter_begun q (names.variable x) n y))) there ∙ more.passed_is;
            world = more.world;
            passing = more.passing;
          }

      by_test : (b : Bool) → keep i ≡ b → AlikeList (AlikeValue w0) (if b then v ∷ chosen keep (suc i) vs else chosen keep (suc i) vs) zs → MadeFrom (as_type (p.typing.variable x) v) (λ (z : Value). passed p xs vs (parameter_begun p x m z)) (Some c) → ArePassed c (passed q (map names.variable (if b then x ∷ chosen keep (suc i) xs else chosen keep (suc i) xs)) zs n)
      by_test true is a k = both_pass (stays ∙ is) zs a k
      by_test false is a k = rest zs a (parameter_begun p x m k.value) n c w (alone m n w x k.value h (stays ∙ is)) k.same

  pub pass_all : (keep : ℕ → Bool) (i : ℕ) (xs : List ℕ) (vs zs : List Value) → StayBy keep i xs → AlikeList (AlikeValue w0) (chosen keep i vs) zs → Passes keep i xs vs zs
  pass_all keep i [] [] zs stay nil m n c w h e =
      record { state = n; passed_is = refl; world = w; passing = subst (λ (t : State). IsPassing t n w) (same_Some m c e) h }
  pass_all keep i [] (v ∷ vs) zs stay alike m n c w h e = none_there e
  pass_all keep i (x ∷ xs) [] zs stay alike m n c w h e = none_there e
  pass_all keep i (x ∷ xs) (v ∷ vs) zs stay alike m n c w h e =
      let here : i + 0 ≡ i = omega arith in
      first_passed keep i x xs v vs zs (stay 0 x refl ∙ ap keep here) alike (λ us a. pass_all keep (suc i) xs vs us (λ j y is. let same : i + suc j ≡ suc i + j = omega arith in stay (suc j) y is ∙ ap keep same) a) m n c w h e

  -- ---- what is alike then

  -- the callee sees of what isn't seen outside only its parameters
  pub alike_inside : (m n : State) (w : World) → IsPassing m n w → (l : Location) → out l ≡ false → (l ≡ the_input → ⊥) → m0.returned ≡ None → n0.returned ≡ None → ((x b : ℕ) → l.root ≡ Variable x → m0.frame x ≡ Some b → ⊥) → AlikeAt out w l m n
  alike_inside m n w h l inside_ no_input none none_there_ unnamed = h.begun.same l (record {
    cells = λ b c path e counts live at. by_name b counts;
    input = λ e. absurd (no_input e);
    result = λ k e. subst (λ v. AlikeCell w0 v n0.returned) (sym none) (subst (λ v. AlikeCell w0 None v) (sym none_there_) empty);
  })
    where
      by_name : {A : Type 0} (b : ℕ) → Counts out l m0 b → A
      by_name b (inl e) = false_true (sym inside_ ∙ e)
      by_name b (inr k) = absurd (unnamed k.0 b k.1 k.2)
