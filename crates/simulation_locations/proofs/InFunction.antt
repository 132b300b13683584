-- The vertices of a function's order are the function's.
use Rattle.std.proofs.Common.{◌≡◌, ℕ, List, [], ◌∷◌, Bool, true, ◌||◌, Option, Some, None, inl, inr, refl, sym, subst}
use Rattle.std.specs.Prelude.{IsTrue}
use Rattle.bit_rows.specs.Sets.{has}
use Rattle.c_language.proofs.Options.{none_there, some_same}
use Rattle.c_tree.specs.declared.program.Program.{Program}
use Rattle.c_language.specs.Code.{Act, Tests, Code, End, Opens, Plain, Fork, Loop, Leaves, Call}
use Rattle.dep_model.specs.declared.location.Location.{Location}
use Rattle.dep_model.specs.declared.vertex.VertexKind.{VertexKind}
use Rattle.dep_model.specs.Follows.{enters, InTurn, VerticesAt, start, Follows}
use Rattle.dep_model.specs.FunctionVertices.{is_own, is_actual, is_entry, is_formal_in, is_formal_out, numbers, vertices_at, heads, tails, code_in}
use Rattle.dep_model.specs.SystemGraph.{Analysis, vertices_of, IsVertex}
use Rattle.dep_model.proofs.Membership.{IsIn, in_either}
use Rattle.simulation_locations.specs.Wanted.{Next, WantedAt, used, before, last_of, entered_at, uses_at}
use Rattle.simulation_locations.proofs.CallVertices.{kind_there}

-- ---- what holds of all vertices of an order holds of those that follow

module _ (P : ℕ → Type 0) where
  abbrev pub IfThere : Option ℕ → Type 0
  IfThere o = (v : ℕ) → o ≡ Some v → P v

  none_is : IfThere None
  none_is v e = none_there e

  some_is : (n : ℕ) → P n → IfThere (Some n)
  some_is n h v e = subst P (some_same e) h

  enters_is : (ns : List ℕ) (k : Option ℕ) → ((n : ℕ) → IsIn ns n → P n) → IfThere k → IfThere (enters ns k)
  enters_is [] k all h = h
  enters_is (n ∷ ns) k all h = some_is n (all n (inl refl))

  turn_is : (ns : List ℕ) (k : Option ℕ) (v : ℕ) (w : Option ℕ) → ((n : ℕ) → IsIn ns n → P n) → IfThere k → InTurn ns k v w → IfThere w
  turn_is [] k v w all h t = absurd t
  turn_is (n ∷ ns) k v w all h (inl t) = subst IfThere (sym t.1) (enters_is ns k (λ m i. all m (inr i)) h)
  turn_is (n ∷ ns) k v w all h (inr t) = turn_is ns k v w (λ m i. all m (inr i)) h t

  module _ (at : VerticesAt ℕ) (all : (i : ℕ) (x : Option Act) (n : ℕ) → IsIn (at i x) n → P n) where
    pub start_is : (c : Code) (k : Option ℕ) → IfThere k → IfThere (start at c k)
    start_is End k h = h
    start_is (Opens x r) k h = start_is r k h
    start_is (Plain i a r) k h = enters_is (at i (Some a)) (start at r k) (all i (Some a)) (start_is r k h)
    start_is (Fork i e c r) k h = enters_is (at i (Some (Tests e))) (start at r k) (all i (Some (Tests e))) (start_is r k h)
    start_is (Loop i e b r) k h = enters_is (at i (Some (Tests e))) (start at r k) (all i (Some (Tests e))) (start_is r k h)
    start_is (Leaves xs r) k h = start_is r k h
    start_is (Call i to g args r) k h = enters_is (at i None) (start at r k) (all i None) (start_is r k h)

    pub follows_is : (c : Code) (k : Option ℕ) (v : ℕ) (w : Option ℕ) → IfThere k → Follows at c k v w → IfThere w
    follows_is End k v w h t = absurd t
    follows_is (Opens x r) k v w h t = follows_is r k v w h t
    follows_is (Plain i a r) k v w h (inl t) = turn_is (at i (Some a)) (start at r k) v w (all i (Some a)) (start_is r k h) t
    follows_is (Plain i a r) k v w h (inr t) = follows_is r k v w h t
    follows_is (Fork i e c r) k v w h (inl t) =
        turn_is (at i (Some (Tests e))) (start at (c t.0) (start at r k)) v w (all i (Some (Tests e))) (start_is (c t.0) (start at r k) (start_is r k h)) t.1
    follows_is (Fork i e c r) k v w h (inr (inl t)) = follows_is (c t.0) (start at r k) v w (start_is r k h) t.1
    follows_is (Fork i e c r) k v w h (inr (inr t)) = follows_is r k v w h t
    follows_is (Loop i e b r) k v w h (inl t) =
        let again = enters_is (at i (Some (Tests e))) (start at r k) (all i (Some (Tests e))) (start_is r k h) in
        turn_is (at i (Some (Tests e))) (start at b (enters (at i (Some (Tests e))) (start at r k))) v w (all i (Some (Tests e))) (start_is b (enters (at i (Some (Tests e))) (start at r k)) again) t
    follows_is (Loop i e b r) k v w h (inr (inl t)) = turn_is (at i (Some (Tests e))) (start at r k) v w (all i (Some (Tests e))) (start_is r k h) t
    follows_is (Loop i e b r) k v w h (inr (inr (inl t))) =
        follows_is b (enters (at i (Some (Tests e))) (start at r k)) v w (enters_is (at i (Some (Tests e))) (start at r k) (all i (Some (Tests e))) (start_is r k h)) t
    follows_is (Loop i e b r) k v w h (inr (inr (inr t))) = follows_is r k v w h t
    follows_is (Leaves xs r) k v w h t = follows_is r k v w h t
    follows_is (Call i to g args r) k v w h (inl t) = turn_is (at i None) (start at r k) v w (all i None) (start_is r k h) t
    follows_is (Call i to g args r) k v w h (inr t) = follows_is r k v w h t

module _ (p : Program) (a : Analysis) (f : ℕ) where
  -- a vertex of the function
  pub record IsOf (v : ℕ) : Type 0 where
    pub kind : VertexKind
    pub is : IsVertex (vertices_of p a) f kind v

  of_numbers : (test : VertexKind → Bool) (n : ℕ) → IsIn (numbers test f (vertices_of p a)) n → IsOf n
  of_numbers test n m = let k = kind_there p a test f n m in record { kind = k.kind; is = k.is }

  at_is : (i : ℕ) (x : Option Act) (n : ℕ) → IsIn (vertices_at (vertices_of p a) f i x) n → IsOf n
  at_is i x n m = of_numbers (λ k. is_own i k || is_actual i k) n m

  tails_are : (n : ℕ) → IsIn (tails (vertices_of p a) f) n → IsOf n
  tails_are n m = of_numbers is_formal_out n m

  heads_are : (n : ℕ) → IsIn (heads (vertices_of p a) f) n → IsOf n
  heads_are n m = elim (in_either (numbers is_entry f (vertices_of p a)) (numbers is_formal_in f (vertices_of p a)) n m) [
    | inl x ↦ of_numbers is_entry n x
    | inr y ↦ of_numbers is_formal_in n y
  ]

  last_is : IfThere IsOf (last_of p a f)
  last_is = enters_is IsOf (tails (vertices_of p a) f) None tails_are (none_is IsOf)

  pub entered_is : (c : Code) → IfThere IsOf (entered_at p a f c)
  entered_is c = start_is IsOf (vertices_at (vertices_of p a) f) at_is c (last_of p a f) last_is

  next_is : (v : ℕ) (w : Option ℕ) → Next p a f v w → IfThere IsOf w
  next_is v w pair = elim pair [
    | inl t ↦ turn_is IsOf (heads (vertices_of p a) f) (entered_at p a f (code_in p f)) v w heads_are (entered_is (code_in p f)) t
    | inr (inl t) ↦ follows_is IsOf (vertices_at (vertices_of p a) f) at_is (code_in p f) (last_of p a f) v w last_is t
    | inr (inr t) ↦ turn_is IsOf (tails (vertices_of p a) f) None v w tails_are (none_is IsOf) t
  ]

  -- what is wanted there may be used by a kept vertex of the function
  pub record IsUsed (kept : List Bool) (l : Location) : Type 0 where
    pub vertex : ℕ
    pub is_of : IsOf vertex
    pub is_kept : IsTrue (has kept vertex)
    pub used_there : uses_at p a vertex l ≡ true

  pub wanted_is_used : (kept : List Bool) (l : Location) (o : Option ℕ) → WantedAt p a kept f l o → IfThere IsOf o → IsUsed kept l
  wanted_is_used kept l o (used {v = v} is u) there = record { vertex = v; is_of = there v refl; is_kept = is; used_there = u }
  wanted_is_used kept l o (before {v = v} {w = w} pair k h) there = wanted_is_used kept l w h (next_is v w pair)
