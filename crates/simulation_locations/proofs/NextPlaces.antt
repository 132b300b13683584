-- What a list does next, and the order of its vertices.
use Rattle.std.proofs.Common.{◌≡◌, ℕ, List, [], ◌∷◌, Bool, true, false, Option, Some, None, inl, inr, refl, ap, subst}
use Rattle.c_language.specs.Code.{Tests, Code, End, Opens, Plain, Fork, Loop, Leaves, Call, ◌⨟◌, is_true, either}
use Rattle.c_meaning.specs.Acts.{Made, picked}
use Rattle.dep_model.specs.Follows.{enters, InTurn, VerticesAt, start, Follows}
use Rattle.dep_model.proofs.FollowsLemmas.{start-seq, Follows-seq}
use Rattle.run_facts.specs.NextSteps.{Next, Ends, Passes, Does, Calls, next_of}

module _ (at : VerticesAt ℕ) (k : Option ℕ) where
  -- the pairs of one list are pairs of another
  abbrev pub ArePairs : Code → Code → Type 0
  ArePairs b c = (v : ℕ) (w : Option ℕ) → Follows at b k v w → Follows at c k v w

  -- the pairs of vertices that one of the ways of going on follows
  abbrev pub AreTurns : List ℕ → Code → Code → Type 0
  AreTurns ns r c = (v : ℕ) (w : Option ℕ) → InTurn ns (start at r k) v w → Follows at c k v w

  pub record PassesThere (c r : Code) : Type 0 where
    pub starts : start at c k ≡ start at r k
    pub pairs : ArePairs r c

  -- an act whose vertices are these comes next
  pub record DoesThere (c : Code) (ns : List ℕ) (go : Made → Code) : Type 0 where
    pub starts : (n : ℕ) → ns ≡ n ∷ [] → start at c k ≡ Some n
    pub turns : (m : Made) → AreTurns ns (go m) c
    pub pairs : (m : Made) → ArePairs (go m) c

  pub record CallsThere (c : Code) (ns : List ℕ) (r : Code) : Type 0 where
    pub starts : start at c k ≡ enters ns (start at r k)
    pub turns : AreTurns ns r c
    pub pairs : ArePairs r c

  abbrev pub IsThere : Code → Next → Type 0
  IsThere c Ends = start at c k ≡ k
  IsThere c (Passes change r) = PassesThere c r
  IsThere c (Does i a go) = DoesThere c (at i (Some a)) go
  IsThere c (Calls i to g args r) = CallsThere c (at i None) r

  one_starts : (ns : List ℕ) (q : Option ℕ) (n : ℕ) → ns ≡ n ∷ [] → enters ns q ≡ Some n
  one_starts ns q n e = ap (λ (ms : List ℕ). enters ms q) e

  turn_loop : (i : ℕ) (e : _) (b r : Code) (t : Bool) → AreTurns (at i (Some (Tests e))) (either t (b ⨟ Loop i e b r) r) (Loop i e b r)
  turn_loop i e b r true v w h = inl (subst (λ q. InTurn (at i (Some (Tests e))) q v w) (start-seq at b (Loop i e b r) k) h)
  turn_loop i e b r false v w h = inr (inl h)

  pairs_loop : (i : ℕ) (e : _) (b r : Code) (t : Bool) → ArePairs (either t (b ⨟ Loop i e b r) r) (Loop i e b r)
  pairs_loop i e b r true v w h = elim (Follows-seq at b (Loop i e b r) k v w h) [ inl x ↦ inr (inr (inl x)) | inr y ↦ y ]
  pairs_loop i e b r false v w h = inr (inr (inr h))

  -- so it is of each list
  pub is_there : (c : Code) → IsThere c (next_of c)
  is_there End = refl
  is_there (Opens x r) = record { starts = refl; pairs = λ v w h. h }
  is_there (Plain i a r) = record {
    starts = λ n e. one_starts (at i (Some a)) (start at r k) n e;
    turns = λ m v w h. inl h;
    pairs = λ m v w h. inr h;
  }
  is_there (Fork i e c r) = record {
    starts = λ n q. one_starts (at i (Some (Tests e))) (start at r k) n q;
    turns = λ m v w h. inl (picked m, subst (λ q. InTurn (at i (Some (Tests e))) q v w) (start-seq at (c (picked m)) r k) h);
    pairs = λ m v w h. elim (Follows-seq at (c (picked m)) r k v w h) [ inl x ↦ inr (inl (picked m, x)) | inr y ↦ inr (inr y) ];
  }
  is_there (Loop i e b r) = record {
    starts = λ n q. one_starts (at i (Some (Tests e))) (start at r k) n q;
    turns = λ m v w h. turn_loop i e b r (is_true (picked m)) v w h;
    pairs = λ m v w h. pairs_loop i e b r (is_true (picked m)) v w h;
  }
  is_there (Leaves xs r) = record { starts = refl; pairs = λ v w h. h }
  is_there (Call i to g args r) = record { starts = refl; turns = λ v w h. inl h; pairs = λ v w h. inr h }

  pub next_there : (c : Code) (n : Next) → next_of c ≡ n → IsThere c n
  next_there c n e = subst (IsThere c) e (is_there c)
