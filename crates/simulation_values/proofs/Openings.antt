-- The globals have begun in a program and in its slice.
use Rattle.std.proofs.Common.{◌≡◌, ℕ, List, [], ◌∷◌, ◌++◌, length, true, false, inl, inr, refl, sym, ap, ap₂, ◌∙◌, subst}
use Rattle.std.specs.List.{list_all}
use Rattle.std.proofs.lemmas.Bool.{and_parts}
use Rattle.c_tree.specs.declared.program.Item.{Item}
use Rattle.c_tree.specs.declared.program.Item.TheVariants as item
use Rattle.c_tree.specs.declared.program.Program.{Program}
use Rattle.c_language.specs.declared.expr_type.ExprType.{ExprType}
use Rattle.c_language.proofs.Tests.{by_answer}
use Rattle.c_meaning.specs.Activations.{Global, Executable, executable, globals_in, outside, zeros, blank, global_opened, global_begun, all_begun}
use Rattle.c_meaning.specs.Memory.{Block}
use Rattle.c_meaning.specs.Values.{State}
use Rattle.dep_model.specs.declared.location.Location.{Location}
use Rattle.dep_model.specs.ModRef.{is_outside}
use Rattle.dep_model.proofs.Membership.{IsIn}
use Rattle.projection.specs.Projection.{if_so}
use Rattle.projection.specs.Renumbering.{renamed_init}
use Rattle.typed_programs.specs.FixedValues.{begins_fixed}
use Rattle.typed_programs.specs.TreeOperands.{declarations}
use Rattle.typed_programs.specs.TypedStatements.{begins, item_fits}
use Rattle.typed_programs.proofs.TypedPrograms.{programs_typed}
use Rattle.simulation.specs.Premises.{Beginning}
use Rattle.simulation.specs.Renaming.{World, empty, AlikeAt, neither}
use Rattle.simulation.specs.Settings.{Setting}
use Rattle.simulation_places.specs.LikeParts.{projected_globals}
use Rattle.simulation_places.specs.Counterparts.{names_of}
use Rattle.simulation_steps.specs.SlicePairs.{SlicePair, setting_over}
use Rattle.simulation_values.proofs.BegunGlobals.{with_block_of, Begun, begun_alone, begun_both}
use Rattle.simulation_values.proofs.Globals.{Write, writes_of, block_after, init_made, begun_block, begun_is, block_live, made_plain, made_same, block_plain}

-- what globals begin with names no variable
fixed_globals : (p : Program) (xs : List Item) → list_all (item_fits (declarations p)) xs ≡ true → (g : Global) → IsIn (globals_in xs) g → begins_fixed g.init ≡ true
fixed_globals p [] fits g m = absurd m
fixed_globals p (item.Include b ∷ xs) fits g m = fixed_globals p xs fits g m
fixed_globals p (item.Tag d ∷ xs) fits g m = fixed_globals p xs fits g m
fixed_globals p (item.Struct d ∷ xs) fits g m = fixed_globals p xs fits g m
fixed_globals p (item.Global x i ∷ xs) fits g (inl e) =
    subst (λ (h : Global). begins_fixed h.init ≡ true) e (and_parts (begins (declarations p) x i) (begins_fixed i) (and_parts (item_fits (declarations p) (item.Global x i)) (list_all (item_fits (declarations p)) xs) fits).0).1
fixed_globals p (item.Global x i ∷ xs) fits g (inr m) =
    fixed_globals p xs (and_parts (item_fits (declarations p) (item.Global x i)) (list_all (item_fits (declarations p)) xs) fits).1 g m
fixed_globals p (item.Prototype f ns is_static ∷ xs) fits g m = fixed_globals p xs fits g m
fixed_globals p (item.Define f ∷ xs) fits g m = fixed_globals p xs fits g m

module _ (pair : SlicePair) where
  abbrev here : Executable
  here = executable pair.original

  abbrev there : Executable
  there = executable pair.slice

  fixed : (g : Global) → IsIn here.globals g → begins_fixed g.init ≡ true
  fixed = fixed_globals pair.original pair.original.items (programs_typed pair.original pair.well).globals

  -- a global begins in both, or in the original alone
  pub record Next (w : World) (m n : State) : Type 0 where
    pub world : World
    pub begun : Begun (names_of pair.kept pair.new) (is_outside pair.original) world m n

  module _ (g : Global) (member : IsIn here.globals g) (w : World) (m n : State) (h : Begun (names_of pair.kept pair.new) (is_outside pair.original) w m n) where
    abbrev x : ℕ
    x = g.variable

    abbrev block : Block
    block = begun_block here x m g.init

    here_is : global_begun here g m ≡ with_block_of x block m
    here_is = begun_is here x m g.init

    begins_alone : pair.kept.variable x ≡ false → Begun (names_of pair.kept pair.new) (is_outside pair.original) w (global_begun here g m) n
    begins_alone goes = subst (λ (s : State). Begun (names_of pair.kept pair.new) (is_outside pair.original) w s n) (sym here_is) (begun_alone (names_of pair.kept pair.new) (is_outside pair.original) pair.apart w m n h x block goes)

    abbrev twin : Global
    twin = record { variable = pair.new.variable x; init = renamed_init pair.new.variable g.init }

    abbrev writes : List Write
    writes = writes_of (init_made m.memory.structs (here.typing.variable x) (length m.memory.blocks) (outside here) (global_opened here x m) g.init)

    -- what the global begins with comes to the same in both
    same_block : pair.kept.variable x ≡ true → begun_block there (pair.new.variable x) n twin.init ≡ block
    same_block stays =
        ap₂ (λ ss (t : ExprType). block_after ss (writes_of (init_made ss t (length n.memory.blocks) (outside there) (global_opened there (pair.new.variable x) n) twin.init)) (zeros ss t)) (sym h.blocks.structs_are) (pair.parts.types_are x stays)
        ∙ ap (λ ws. block_after m.memory.structs ws (zeros m.memory.structs (here.typing.variable x))) (made_same (outside here) (outside there) pair.new.variable (global_opened here x m) (global_opened there (pair.new.variable x) n) m.memory.structs (here.typing.variable x) (length n.memory.blocks) (length m.memory.blocks) g.init (fixed g member))

    there_is : pair.kept.variable x ≡ true → global_begun there twin n ≡ with_block_of (pair.new.variable x) block n
    there_is stays = begun_is there (pair.new.variable x) n twin.init ∙ ap (λ (b : Block). with_block_of (pair.new.variable x) b n) (same_block stays)

    begins_both : pair.kept.variable x ≡ true → Next w (global_begun here g m) (global_begun there twin n)
    begins_both stays =
        let plain = block_plain m.memory.structs (here.typing.variable x) writes (made_plain (outside here) (outside here) (λ z. z) (global_opened here x m) (global_opened here x m) m.memory.structs (here.typing.variable x) (length m.memory.blocks) g.init (fixed g member)) in
        let both = begun_both (names_of pair.kept pair.new) (is_outside pair.original) pair.apart w m n h x block stays (block_live here x m g.init) plain in
        record {
          world = w ++ length m.memory.blocks ∷ [];
          begun = subst (λ (s : State). Begun (names_of pair.kept pair.new) (is_outside pair.original) (w ++ length m.memory.blocks ∷ []) s (global_begun there twin n)) (sym here_is) (subst (λ (s : State). Begun (names_of pair.kept pair.new) (is_outside pair.original) (w ++ length m.memory.blocks ∷ []) (with_block_of x block m) s) (sym (there_is stays)) both);
        }

  all_begin : (gs : List Global) → ((g : Global) → IsIn gs g → IsIn here.globals g) → (w : World) (m n : State) → Begun (names_of pair.kept pair.new) (is_outside pair.original) w m n → Next w (all_begun here gs m) (all_begun there (projected_globals pair.kept pair.new gs) n)
  all_begin [] among w m n h = record { world = w; begun = h }
  all_begin (g ∷ gs) among w m n h =
      by_answer (pair.kept.variable g.variable)
      (λ stays.
      let one = begins_both g (among g (inl refl)) w m n h stays in
      let rest = all_begin gs (λ x i. among x (inr i)) one.world (global_begun here g m) _ one.begun in
      record { world = rest.world; begun = subst (λ ys. Begun (names_of pair.kept pair.new) (is_outside pair.original) rest.world (all_begun here (g ∷ gs) m) (all_begun there ys n)) (sym (ap (λ b. if_so b (record { variable = pair.new.variable g.variable; init = renamed_init pair.new.variable g.init } ∷ projected_globals pair.kept pair.new gs) (projected_globals pair.kept pair.new gs)) stays)) rest.begun })
      (λ goes.
      let rest = all_begin gs (λ x i. among x (inr i)) w (global_begun here g m) n (begins_alone g (among g (inl refl)) w m n h goes) in
      record { world = rest.world; begun = subst (λ ys. Begun (names_of pair.kept pair.new) (is_outside pair.original) rest.world (all_begun here (g ∷ gs) m) (all_begun there ys n)) (sym (ap (λ b. if_so b (record { variable = pair.new.variable g.variable; init = renamed_init pair.new.variable g.init } ∷ projected_globals pair.kept pair.new gs) (projected_globals pair.kept pair.new gs)) goes)) rest.begun })

  -- before the first global
  blank_begun : Begun (names_of pair.kept pair.new) (is_outside pair.original) [] (blank here) (blank there)
  blank_begun = record {
    blocks = record {
      structs_are = sym pair.parts.structs_are;
      count_is = refl;
      each = λ c b e. cc;
      one_to_one = λ b c d e j. cc;
    };
    frames = λ x stays. neither;
    same = λ l. record { cells = λ b c path e counts live at. cc; input = λ e. refl; result = λ f e. empty };
    tracked = refl;
    tracked_there = refl;
  }

  globals_begin : Next [] (all_begun here here.globals (blank here)) (all_begun there there.globals (blank there))
  globals_begin =
      subst (λ gs. Next [] (all_begun here here.globals (blank here)) (all_begun there gs (blank there))) (sym pair.parts.globals_are) (all_begin here.globals (λ g m. m) [] (blank here) (blank there) blank_begun)

module _ (pair : SlicePair) (holds : ℕ → Type 0) where
  abbrev s : Setting
  s = setting_over pair holds

  opening_alike : (w : World) (m n : State) → Begun (names_of pair.kept pair.new) (is_outside pair.original) w m n → (l : Location) → AlikeAt (is_outside pair.original) w l (record m { unread = pair.input }) (record n { unread = pair.input })
  opening_alike w m n h l =
      let same = h.same l in record { cells = λ b c path e counts live at. same.cells b c path e counts live at; input = λ e. refl; result = same.result }

  pub beginning_together : Beginning s
  beginning_together =
      let all = globals_begin pair in
      let h = all.begun in
      record {
        world = all.world;
        blocks = record { structs_are = h.blocks.structs_are; count_is = h.blocks.count_is; each = λ c b e. let o = h.blocks.each c b e in record { number = o.number; stands = o.stands; block = o.block; block_is = o.block_is; shape_is = o.shape_is; kind_is = o.kind_is; origin = o.origin; origin_there = o.origin_there; origin_is = o.origin_is; origin_there_is = o.origin_there_is; origins_are = o.origins_are; gone = o.gone }; one_to_one = h.blocks.one_to_one };
        frames = h.frames;
        same = λ l wanted. opening_alike all.world _ _ h l;
      }
