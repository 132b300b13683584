-- The effects of acts and calls on small trees, computed.
use Rattle.std.proofs.Common.{◌≡◌, ℕ, pos, List, [], ◌∷◌, ◌++◌, map, Option, Some, None, false, refl, ap, ap₂, ◌∙◌}
use Rattle.std.specs.Prelude.{option_map, option_and_then}
use Rattle.c_tree.specs.declared.program.Init.TheVariants as init
use Rattle.c_tree.specs.declared.statement.Amount.TheVariants as amount
use Rattle.c_tree.specs.declared.statement.Size.{Size}
use Rattle.c_tree.specs.declared.statement.Target.TheVariants as target
use Rattle.c_language.specs.Code.{Begins, Sets, Allocates, Frees}
use Rattle.c_meaning.specs.declared.value.Place.{Place}
use Rattle.c_meaning.specs.declared.value.Value.{Value}
use Rattle.c_meaning.specs.Values.{Types, State, Meant, meant_step, variable_place, beside, eval_all}
use Rattle.c_meaning.specs.Acts.{Made, assigned, writable, listed, next_block, allocated_by, freed_at}
use Rattle.c_meaning.specs.Activations.{Executable, types_in}
use Rattle.c_meaning.proofs.Small.{Small, tree}
use Rattle.dep_model.specs.Doings.{Does}
use Rattle.run_facts.specs.Effects.{Effect, holding, storing, store_effect, doing_effect, store_received}
use Rattle.run_facts.specs.ReadCells.{Watched, watched_step, watched, all_read}
use Rattle.run_facts.proofs.SmallTrees.{small, fold_tree}

module _ (p : Executable) (f : ℕ) where
  abbrev types : Types
  types = types_in p f

  abbrev pub means : Small → Meant
  means = small (meant_step types)

  abbrev pub watches : Small → Watched
  watches = small (watched_step types)

  abbrev pub effect_with : State → List Place → Made → Effect
  effect_with s reads x = record {
    reads = map (holding s.memory) reads;
    stores = map storing x.stores;
    takes = false;
    returned = x.returned;
  }

  -- ---- left = right;

  abbrev set_with : State → Meant → Meant → Option Made
  set_with s l r = assigned l.type (writable s (l.place s)) (r.value s)

  abbrev pub set_effect : Small → Small → State → Option Effect
  set_effect l r s = option_map (effect_with s ((watches l).found s ++ (watches r).read s)) (set_with s (means l) (means r))

  pub sets : (i : ℕ) (l r : Small) (s : State) → doing_effect p f (Does i (Sets (tree l) None (tree r))) s ≡ set_effect l r s
  sets i l r s =
      ap₂ (λ (m n : Meant). option_map (effect_with s ((watched types (tree l)).found s ++ (watched types (tree r)).read s)) (set_with s m n)) (fold_tree (meant_step types) l) (fold_tree (meant_step types) r)
      ∙ ap₂ (λ (v w : Watched). option_map (effect_with s (v.found s ++ w.read s)) (set_with s (means l) (means r))) (fold_tree (watched_step types) l) (fold_tree (watched_step types) r)

  -- ---- x = {..}; in a declaration

  abbrev values_of : List Small → State → Option (List Value)
  values_of [] s = Some []
  values_of (a ∷ as_) s = beside ((means a).value s) (values_of as_ s)

  abbrev reads_of : List Small → State → List Place
  reads_of [] s = []
  reads_of (a ∷ as_) s = (watches a).read s ++ reads_of as_ s

  all_mean : (as_ : List Small) (s : State) → eval_all types (map tree as_) s ≡ values_of as_ s
  all_mean [] s = refl
  all_mean (a ∷ as_) s = ap₂ beside (ap (λ (m : Meant). m.value s) (fold_tree (meant_step types) a)) (all_mean as_ s)

  all_watched : (as_ : List Small) (s : State) → all_read types (map tree as_) s ≡ reads_of as_ s
  all_watched [] s = refl
  all_watched (a ∷ as_) s = ap₂ (λ (xs ys : List Place). xs ++ ys) (ap (λ (w : Watched). w.read s) (fold_tree (watched_step types) a)) (all_watched as_ s)

  abbrev pub list_effect : ℕ → List Small → State → Option Effect
  list_effect x as_ s = option_map (effect_with s (reads_of as_ s)) (listed (types.typing.variable x) s (variable_place x s) (values_of as_ s))

  pub lists : (i x : ℕ) (as_ : List Small) (s : State) → doing_effect p f (Does i (Begins x (init.Items (map tree as_)))) s ≡ list_effect x as_ s
  lists i x as_ s =
      ap₂ (λ (xs : List Place) (o : Option (List Value)). option_map (effect_with s xs) (listed (types.typing.variable x) s (variable_place x s) o)) (all_watched as_ s) (all_mean as_ s)

  -- ---- left = malloc(sizeof ..);

  abbrev pub heap_effect : Small → State → Option Effect
  heap_effect l s =
      option_map (effect_with s ((watches l).found s ++ [])) (allocated_by (Some (means l).type) (Some (pos 1)) (assigned (means l).type (writable s ((means l).place s)) (Some (next_block s))))

  pub allocates : (i : ℕ) (l : Small) (k : Size) (s : State) → doing_effect p f (Does i (Allocates (target.Place (tree l)) (amount.Size k))) s ≡ heap_effect l s
  allocates i l k s =
      ap₂ (λ (v : Watched) (m : Meant). option_map (effect_with s (v.found s ++ [])) (allocated_by (Some m.type) (Some (pos 1)) (assigned m.type (writable s (m.place s)) (Some (next_block s))))) (fold_tree (watched_step types) l) (fold_tree (meant_step types) l)

  -- ---- free(e);

  abbrev pub free_effect : Small → State → Option Effect
  free_effect a s = option_map (effect_with s ((watches a).read s)) (option_and_then (freed_at s.memory) ((means a).value s))

  pub frees : (i : ℕ) (a : Small) (s : State) → doing_effect p f (Does i (Frees (tree a))) s ≡ free_effect a s
  frees i a s =
      ap₂ (λ (v : Watched) (m : Meant). option_map (effect_with s (v.read s)) (option_and_then (freed_at s.memory) (m.value s))) (fold_tree (watched_step types) a) (fold_tree (meant_step types) a)

  -- ---- the store after a call of g, whose target is an object

  abbrev pub stored_effect : Small → Option Value → State → Option Effect
  stored_effect l o s =
      option_map (store_effect s.memory ((watches l).found s)) (option_and_then (λ (v : Value). assigned (means l).type (writable s ((means l).place s)) (Some v)) o)

  pub receives : (l : Small) (o : Option Value) (s : State) → store_received p types (target.Place (tree l)) o s ≡ stored_effect l o s
  receives l o s =
      ap₂ (λ (v : Watched) (m : Meant). option_map (store_effect s.memory (v.found s)) (option_and_then (λ (w : Value). assigned m.type (writable s (m.place s)) (Some w)) o)) (fold_tree (watched_step types) l) (fold_tree (meant_step types) l)
