-- The blocks of variables: each that a function can name was made by the variable, and stays so.
use Rattle.std.proofs.Common.{◌≡◌, ℕ, zero, suc, ◌+◌, ◌==◌, List, [], ◌∷◌, ◌++◌, length, Option, Some, None, Bool, true, false, refl, sym, ap, ◌∙◌, subst, arith, append_assoc}
use Rattle.std.specs.Prelude.{option_and_then, slice_get, if◌then◌else◌}
use Rattle.std.proofs.lemmas.Bool.{eqb-true}
use Rattle.std.proofs.lemmas.List.{append-nil}
use Rattle.std.proofs.lemmas.Option.{same_Some}
use Rattle.c_language.proofs.Options.{some_same, none_there}
use Rattle.c_meaning.specs.declared.value.Value.{Value}
use Rattle.c_meaning.specs.Values.{Types, Origin, OfVariable, OfStatement, State, bound, variable_opened, variable_closed, all_closed, as_type}
use Rattle.c_meaning.specs.Acts.{Request, origins_after, begun_with}
use Rattle.c_meaning.specs.Activations.{Global, Executable, outside, blank, global_opened, stores_of, initialised, all_begun, opening, parameter_begun, passed}
use Rattle.c_meaning.proofs.Frames.{get_last}
use Rattle.c_meaning.proofs.Origins.{IsTracked, both_longer, blocks_stored, tracked_opened, tracked_closed, tracked_parameter}

-- ---- origins that grow

pub record Grows (os more : List Origin) : Type 0 where
  pub new : List Origin
  pub are : more ≡ os ++ new

pub grows_not : (os : List Origin) → Grows os os
grows_not os = record { new = []; are = sym (append-nil os) }

pub grows_by : (os new : List Origin) → Grows os (os ++ new)
grows_by os new = record { new = new; are = refl }

pub grows_on : (os ps qs : List Origin) → Grows os ps → Grows ps qs → Grows os qs
grows_on os ps qs g h = record { new = g.new ++ h.new; are = h.are ∙ (ap (λ xs. xs ++ h.new) g.are ∙ append_assoc os g.new h.new) }

pub get_more : {A : Type 0} (xs ys : List A) (n : ℕ) (x : A) → slice_get xs n ≡ Some x → slice_get (xs ++ ys) n ≡ Some x
get_more [] ys n x e = none_there e
get_more (y ∷ xs) ys zero x e = e
get_more (y ∷ xs) ys (suc n) x e = get_more xs ys n x e

pub get_grown : (os ps : List Origin) (n : ℕ) (o : Origin) → Grows os ps → slice_get os n ≡ Some o → slice_get ps n ≡ Some o
get_grown os ps n o g e = subst (λ qs. slice_get qs n ≡ Some o) (sym g.are) (get_more os g.new n o e)

pub grows_after : (i : ℕ) (o : Option Request) (os : List Origin) → Grows os (origins_after i o os)
grows_after i None os = grows_not os
grows_after i (Some r) os = grows_by os (OfStatement i ∷ [])

-- ---- frames

-- each block that is named was made by the variable that names it
abbrev pub AreNamed : (ℕ → Option ℕ) → List Origin → Type 0
AreNamed frame os = (x b : ℕ) → frame x ≡ Some b → slice_get os b ≡ Some (OfVariable x)

pub named_grown : (frame : ℕ → Option ℕ) (os ps : List Origin) → Grows os ps → AreNamed frame os → AreNamed frame ps
named_grown frame os ps g named x b e = get_grown os ps b (OfVariable x) g (named x b e)

-- so it is of the running function, and there are as many origins as blocks
pub record IsPlaced (s : State) : Type 0 where
  pub tracked : IsTracked s
  pub named : AreNamed s.frame s.origins

named_bound : (frame : ℕ → Option ℕ) (os : List Origin) (x n : ℕ) → length os ≡ n → AreNamed frame os → AreNamed (bound frame x (Some n)) (os ++ OfVariable x ∷ [])
named_bound frame os x n long named y b e = by_name (x == y) refl e
  where
    by_name : (same : Bool) → (x == y) ≡ same → (if same then Some n else frame y) ≡ Some b → slice_get (os ++ OfVariable x ∷ []) b ≡ Some (OfVariable y)
    by_name true is k = subst (λ z. slice_get (os ++ OfVariable x ∷ []) b ≡ Some (OfVariable z)) (eqb-true x y is) (subst (λ z. slice_get (os ++ OfVariable x ∷ []) z ≡ Some (OfVariable x)) (long ∙ some_same k) (get_last os (OfVariable x)))
    by_name false is k = get_more os (OfVariable x ∷ []) b (OfVariable y) (named y b k)

named_unbound : (frame : ℕ → Option ℕ) (os : List Origin) (x : ℕ) → AreNamed frame os → AreNamed (bound frame x None) os
named_unbound frame os x named y b e = by_name (x == y) e
  where
    by_name : (same : Bool) → (if same then None else frame y) ≡ Some b → slice_get os b ≡ Some (OfVariable y)
    by_name true k = none_there k
    by_name false k = named y b k

pub placed_opened : (types : Types) (x : ℕ) (s : State) → IsPlaced s → IsPlaced (variable_opened types x s)
placed_opened types x s h = record { tracked = tracked_opened types x s h.tracked; named = named_bound s.frame s.origins x (length s.memory.blocks) h.tracked h.named }

named_closed : (xs : List ℕ) (s : State) → AreNamed s.frame s.origins → AreNamed (all_closed xs s).frame (all_closed xs s).origins
named_closed [] s h = h
named_closed (x ∷ xs) s h = named_closed xs (variable_closed x s) (named_unbound s.frame s.origins x h)

pub placed_closed : (xs : List ℕ) (s : State) → IsPlaced s → IsPlaced (all_closed xs s)
placed_closed xs s h = record { tracked = tracked_closed xs s h.tracked; named = named_closed xs s h.named }

pub grows_closed : (xs : List ℕ) (s : State) → Grows s.origins (all_closed xs s).origins
grows_closed [] s = grows_not s.origins
grows_closed (x ∷ xs) s = grows_closed xs (variable_closed x s)

module _ (p : Executable) where
  -- ---- before main

  placed_globals : (gs : List Global) (s : State) → IsPlaced s → IsPlaced (all_begun p gs s)
  placed_globals [] s h = h
  placed_globals (g ∷ gs) s h =
      let opened = global_opened p g.variable s in
      let o = begun_with (outside p) g.variable g.init opened in
      placed_globals gs (initialised o opened)
      (record {
        tracked = both_longer s.origins s.memory.blocks _ _ h.tracked ∙ sym (blocks_stored (stores_of o) opened.memory);
        named = named_bound s.frame s.origins g.variable (length s.memory.blocks) h.tracked h.named;
      })

  pub placed_opening : (input : List ℕ) → IsPlaced (opening p input)
  placed_opening input =
      let h = placed_globals p.globals (blank p) (record { tracked = refl; named = λ x b e. none_there e }) in
      record { tracked = h.tracked; named = h.named }

  -- ---- parameters

  placed_parameter : (x : ℕ) (s : State) (v : Value) → IsPlaced s → IsPlaced (parameter_begun p x s v)
  placed_parameter x s v h =
      record { tracked = tracked_parameter p x s v h.tracked; named = named_bound s.frame s.origins x (length s.memory.blocks) h.tracked h.named }

  -- arguments are passed: the blocks that stand now for these parameters were made by them, in order
  pub record ArePassed (xs : List ℕ) (s c : State) : Type 0 where
    pub placed : IsPlaced c
    pub grows : Grows s.origins c.origins
    pub blocks : (k x : ℕ) → slice_get xs k ≡ Some x → slice_get c.origins (length s.origins + k) ≡ Some (OfVariable x)

  longer : (os : List Origin) (o : Origin) → length (os ++ o ∷ []) ≡ suc (length os)
  longer [] o = refl
  longer (p_ ∷ os) o = ap suc (longer os o)

  first_at : (os : List Origin) (x n : ℕ) → n ≡ 0 → slice_get (os ++ OfVariable x ∷ []) (length os + n) ≡ Some (OfVariable x)
  first_at os x n e =
      let same : length os + n ≡ length os = omega (arith, e) in
      ap (slice_get (os ++ OfVariable x ∷ [])) same ∙ get_last os (OfVariable x)

  passed_one : (x : ℕ) (xs : List ℕ) (s c : State) (w : Value) → ArePassed xs (parameter_begun p x s w) c → ArePassed (x ∷ xs) s c
  passed_one x xs s c w h =
      let first = grows_by s.origins (OfVariable x ∷ []) in
      record {
        placed = h.placed;
        grows = grows_on s.origins (s.origins ++ OfVariable x ∷ []) c.origins first h.grows;
        blocks = at_;
      }
    where
      at_ : (k y : ℕ) → slice_get (x ∷ xs) k ≡ Some y → slice_get c.origins (length s.origins + k) ≡ Some (OfVariable y)
      at_ zero y e =
          subst (λ z. slice_get c.origins (length s.origins + 0) ≡ Some (OfVariable z)) (some_same e) (get_grown (s.origins ++ OfVariable x ∷ []) c.origins (length s.origins + 0) (OfVariable x) h.grows (first_at s.origins x 0 refl))
      at_ (suc k) y e =
          let long = longer s.origins (OfVariable x) in
          let same : length (s.origins ++ OfVariable x ∷ []) + k ≡ length s.origins + suc k = omega (arith, long) in
          subst (λ n. slice_get c.origins n ≡ Some (OfVariable y)) same (h.blocks k y e)

  pub passed_placed : (xs : List ℕ) (vs : List Value) (s c : State) → IsPlaced s → passed p xs vs s ≡ Some c → ArePassed xs s c
  passed_placed [] [] s c h q = subst (ArePassed [] s) (same_Some s c q) (record { placed = h; grows = grows_not s.origins; blocks = λ k x e. none_there e })
  passed_placed [] (v ∷ vs) s c h q = none_there q
  passed_placed (x ∷ xs) [] s c h q = none_there q
  passed_placed (x ∷ xs) (v ∷ vs) s c h q =
      by_value (as_type (p.typing.variable x) v) (λ w k. passed_one x xs s c w (passed_placed xs vs (parameter_begun p x s w) c (placed_parameter x s w h) k)) q
    where
      by_value : (o : Option Value) → ((w : Value) → passed p xs vs (parameter_begun p x s w) ≡ Some c → ArePassed (x ∷ xs) s c) → option_and_then (λ (w : Value). passed p xs vs (parameter_begun p x s w)) o ≡ Some c → ArePassed (x ∷ xs) s c
      by_value None h q = none_there q
      by_value (Some w) h q = h w q
