-- Where the blocks of a slice stand for blocks, the globals with which its run began stand for those of the original.
use Rattle.std.proofs.Common.{◌≡◌, ℕ, ◌<◌, ◌==◌, List, [], ◌∷◌, length, Option, Some, None, Bool, true, false, if◌then◌else◌, inl, inr, refl, sym, ap, ◌∙◌, subst, arith, eq-eqb}
use Rattle.std.specs.Prelude.{slice_get}
use Rattle.c_language.proofs.Options.{none_there, some_same}
use Rattle.c_tree.specs.declared.program.Program.{Program}
use Rattle.c_meaning.specs.Memory.{Block}
use Rattle.c_meaning.specs.Values.{Origin, OfVariable, State}
use Rattle.c_meaning.specs.Activations.{Global, Executable, executable, blank, global_begun, all_begun, opening}
use Rattle.c_meaning.proofs.Origins.{IsTracked}
use Rattle.dep_model.specs.DoingEffects.{is_global}
use Rattle.dep_model.specs.SystemGraph.{Analysis}
use Rattle.dep_model.proofs.Membership.{IsIn}
use Rattle.projection.specs.Kept.{Kept}
use Rattle.run_facts.proofs.Blocks.{AreNamed}
use Rattle.run_facts.proofs.GlobalVariables.{variables_of}
use Rattle.run_facts.proofs.OldBlocks.{opening_names}
use Rattle.simulation.specs.Renaming.{World, Stands, Names, SameOrigin, of_variable, of_statement, StandsForOne, BlocksStand, BothStand, neither, both, FramesStand}
use Rattle.simulation_places.specs.ProjectedCode.{Numbering}
use Rattle.simulation_places.specs.Counterparts.{names_of, AreApart}
use Rattle.simulation_steps.specs.LikeCalls.{HasLikeCalls}
use Rattle.simulation_steps.proofs.LikeRoutines.{renamed_member, member_renamed}
use Rattle.simulation_steps.proofs.GrownLists.{within, there_at}

-- ---- the globals have begun

module _ (p : Executable) where
  -- a variable that has begun goes on having a block, and each global has one
  still_named : (gs : List Global) (s : State) (x b : ℕ) → s.frame x ≡ Some b → (c : ℕ) × ((all_begun p gs s).frame x ≡ Some c)
  still_named [] s x b e = (b, e)
  still_named (g ∷ gs) s x b e =
      by_name (g.variable == x) refl (λ c j. still_named gs (global_begun p g s) x c j)
    where
      by_name : (same : Bool) → (g.variable == x) ≡ same → ((c : ℕ) → (global_begun p g s).frame x ≡ Some c → (d : ℕ) × ((all_begun p (g ∷ gs) s).frame x ≡ Some d)) → (d : ℕ) × ((all_begun p (g ∷ gs) s).frame x ≡ Some d)
      by_name true k later = later (length s.memory.blocks) (ap (λ t. if t then Some (length s.memory.blocks) else s.frame x) k)
      by_name false k later = later b (ap (λ t. if t then Some (length s.memory.blocks) else s.frame x) k ∙ e)

  names_begun : (gs : List Global) (s : State) (x : ℕ) → IsIn (variables_of gs) x → (c : ℕ) × ((all_begun p gs s).frame x ≡ Some c)
  names_begun [] s x i = absurd i
  names_begun (g ∷ gs) s x (inl same) =
      still_named gs (global_begun p g s) x (length s.memory.blocks) (ap (λ t. if t then Some (length s.memory.blocks) else s.frame x) (eq-eqb g.variable x same))
  names_begun (g ∷ gs) s x (inr i) = names_begun gs (global_begun p g s) x i

  pub opening_named : (x : ℕ) → IsIn (variables_of p.globals) x → (c : ℕ) × ((opening p []).frame x ≡ Some c)
  opening_named x i = names_begun p.globals (blank p) x i

-- what made a block of the slice, where that was a variable
record OfOne (names : Names) (o : Origin) (y : ℕ) : Type 0 where
  variable_ : ℕ
  stays : names.stays variable_ ≡ true
  name_is : names.variable variable_ ≡ y
  origin_is : o ≡ OfVariable variable_

origin_of : (names : Names) (o u : Origin) (y : ℕ) → SameOrigin names o u → u ≡ OfVariable y → OfOne names o y
origin_of names o u y (of_variable {x = x} h) e = let same : names.variable x ≡ y = cc in record { variable_ = x; stays = h; name_is = same; origin_is = refl }
origin_of names o u y of_statement e = cc

module _ (p q : Program) (a : Analysis) (k : Kept ℕ) (new : Numbering) (kept : List Bool) (like : HasLikeCalls p q a k new kept) (apart : AreApart (names_of k new)) (w : World) (m n : State) where
  abbrev here : ℕ → Option ℕ
  here = (opening (executable p) []).frame

  abbrev there : ℕ → Option ℕ
  there = (opening (executable q) []).frame

  module _ (stand : BlocksStand (names_of k new) w m n) (tracked_there : IsTracked n) (named_there : AreNamed there n.origins) (first : (b x : ℕ) → slice_get m.origins b ≡ Some (OfVariable x) → is_global p x ≡ true → here x ≡ Some b) (global : (x : ℕ) → IsIn (variables_of (executable p).globals) x → is_global p x ≡ true) where
    -- a variable that begins in the slice's opening does so in the original's
    begins_here : (x c : ℕ) → k.variable x ≡ true → there (new.variable x) ≡ Some c → IsIn (variables_of (executable p).globals) x
    begins_here x c stays e =
        let i = subst (λ xs. IsIn xs (new.variable x)) like.globals (opening_names (executable q) (new.variable x) c e) in
        let v = renamed_member k new (variables_of (executable p).globals) (new.variable x) i in
        subst (IsIn (variables_of (executable p).globals)) (apart v.0 x v.1 stays v.2) v.3

    begins_there : (x b : ℕ) → k.variable x ≡ true → here x ≡ Some b → (c : ℕ) × (there (new.variable x) ≡ Some c)
    begins_there x b stays e =
        opening_named (executable q) (new.variable x) (subst (λ xs. IsIn xs (new.variable x)) (sym like.globals) (member_renamed k new (variables_of (executable p).globals) x (opening_names (executable p) x b e) stays))

    -- the one block that the global made in the original
    own_block : (x b c : ℕ) (block : Block) → StandsForOne (names_of k new) w m n c block → k.variable x ≡ true → here x ≡ Some b → slice_get n.origins c ≡ Some (OfVariable (new.variable x)) → Stands w b c
    own_block x b c block one stays e made =
        let v = origin_of (names_of k new) one.origin one.origin_there (new.variable x) one.origins_are (some_same (sym one.origin_there_is ∙ made)) in
        let origin : one.origin ≡ OfVariable x = v.origin_is ∙ ap OfVariable (apart v.variable_ x v.stays stays v.name_is) in
        let own = first one.number x (one.origin_is ∙ ap Some origin) (global x (opening_names (executable p) x b e)) in
        subst (λ i. Stands w i c) (some_same (sym own ∙ e)) one.stands

    one_stands : (x b c : ℕ) → k.variable x ≡ true → here x ≡ Some b → there (new.variable x) ≡ Some c → Stands w b c
    one_stands x b c stays e j =
        let made = named_there (new.variable x) c j in
        let low : c < length n.memory.blocks = (let lt = within n.origins c (OfVariable (new.variable x)) made in omega (arith, lt, tracked_there)) in
        let t = there_at n.memory.blocks c low in
        own_block x b c t.0 (stand.each c t.0 t.1) stays e made

    frame_at : (x : ℕ) → k.variable x ≡ true → (o u : Option ℕ) → here x ≡ o → there (new.variable x) ≡ u → BothStand (names_of k new) w o u
    frame_at x stays None None e j = neither
    frame_at x stays None (Some c) e j = let t = opening_named (executable p) x (begins_here x c stays j) in none_there (sym e ∙ t.1)
    frame_at x stays (Some b) None e j = let t = begins_there x b stays e in none_there (sym j ∙ t.1)
    frame_at x stays (Some b) (Some c) e j = both (one_stands x b c stays e j)

    pub opening_frames : FramesStand (names_of k new) w here there
    opening_frames x stays = frame_at x stays (here x) (there (new.variable x)) refl refl
