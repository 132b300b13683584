-- The order of one list after another.
use Rattle.std.proofs.Common.{◌≡◌, Option, Some, None, ◌⊎◌, inl, inr, refl, sym, ap, subst}
use Rattle.c_language.specs.Code.{Tests, Code, End, Opens, Plain, Fork, Loop, Leaves, Call, ◌⨟◌}
use Rattle.dep_model.specs.Follows.{enters, InTurn, VerticesAt, start, Follows}

module _ {V : Type 0} (at : VerticesAt V) where
  pub start-seq : (a b : Code) (k : Option V) → start at (a ⨟ b) k ≡ start at a (start at b k)
  start-seq End b k = refl
  start-seq (Opens x r) b k = start-seq r b k
  start-seq (Plain i a r) b k = ap (enters (at i (Some a))) (start-seq r b k)
  start-seq (Fork i e c r) b k = ap (enters (at i (Some (Tests e)))) (start-seq r b k)
  start-seq (Loop i e x r) b k = ap (enters (at i (Some (Tests e)))) (start-seq r b k)
  start-seq (Leaves xs r) b k = start-seq r b k
  start-seq (Call i to f args r) b k = ap (enters (at i None)) (start-seq r b k)

  -- its pairs are those of the first list, followed by the second, and those of the second
  pub Follows-seq : (a b : Code) (k : Option V) (v : V) (w : Option V) → Follows at (a ⨟ b) k v w → Follows at a (start at b k) v w ⊎ Follows at b k v w
  Follows-seq End b k v w h = inr h
  Follows-seq (Opens x r) b k v w h = Follows-seq r b k v w h
  Follows-seq (Plain i a r) b k v w (inl h) = inl (inl (subst (λ q. InTurn (at i (Some a)) q v w) (start-seq r b k) h))
  Follows-seq (Plain i a r) b k v w (inr h) = elim (Follows-seq r b k v w h) [ inl x ↦ inl (inr x) | inr x ↦ inr x ]
  Follows-seq (Fork i e c r) b k v w (inl h) =
      inl (inl (h.0, subst (λ q. InTurn (at i (Some (Tests e))) (start at (c h.0) q) v w) (start-seq r b k) h.1))
  Follows-seq (Fork i e c r) b k v w (inr (inl h)) =
      inl (inr (inl (h.0, subst (λ q. Follows at (c h.0) q v w) (start-seq r b k) h.1)))
  Follows-seq (Fork i e c r) b k v w (inr (inr h)) =
      elim (Follows-seq r b k v w h) [ inl x ↦ inl (inr (inr x)) | inr x ↦ inr x ]
  Follows-seq (Loop i e x r) b k v w (inl h) =
      inl (inl (subst (λ q. InTurn (at i (Some (Tests e))) (start at x (enters (at i (Some (Tests e))) q)) v w) (start-seq r b k) h))
  Follows-seq (Loop i e x r) b k v w (inr (inl h)) =
      inl (inr (inl (subst (λ q. InTurn (at i (Some (Tests e))) q v w) (start-seq r b k) h)))
  Follows-seq (Loop i e x r) b k v w (inr (inr (inl h))) =
      inl (inr (inr (inl (subst (λ q. Follows at x (enters (at i (Some (Tests e))) q) v w) (start-seq r b k) h))))
  Follows-seq (Loop i e x r) b k v w (inr (inr (inr h))) =
      elim (Follows-seq r b k v w h) [ inl y ↦ inl (inr (inr (inr y))) | inr y ↦ inr y ]
  Follows-seq (Leaves xs r) b k v w h = Follows-seq r b k v w h
  Follows-seq (Call i to f args r) b k v w (inl h) = inl (inl (subst (λ q. InTurn (at i None) q v w) (start-seq r b k) h))
  Follows-seq (Call i to f args r) b k v w (inr h) =
      elim (Follows-seq r b k v w h) [ inl x ↦ inl (inr x) | inr x ↦ inr x ]

  -- and each of these is one of them
  pub seq-first : (a b : Code) (k : Option V) (v : V) (w : Option V) → Follows at a (start at b k) v w → Follows at (a ⨟ b) k v w
  seq-first End b k v w h = absurd h
  seq-first (Opens x r) b k v w h = seq-first r b k v w h
  seq-first (Plain i a r) b k v w (inl h) = inl (subst (λ q. InTurn (at i (Some a)) q v w) (sym (start-seq r b k)) h)
  seq-first (Plain i a r) b k v w (inr h) = inr (seq-first r b k v w h)
  seq-first (Fork i e c r) b k v w (inl h) =
      inl (h.0, subst (λ q. InTurn (at i (Some (Tests e))) (start at (c h.0) q) v w) (sym (start-seq r b k)) h.1)
  seq-first (Fork i e c r) b k v w (inr (inl h)) =
      inr (inl (h.0, subst (λ q. Follows at (c h.0) q v w) (sym (start-seq r b k)) h.1))
  seq-first (Fork i e c r) b k v w (inr (inr h)) = inr (inr (seq-first r b k v w h))
  seq-first (Loop i e x r) b k v w (inl h) =
      inl (subst (λ q. InTurn (at i (Some (Tests e))) (start at x (enters (at i (Some (Tests e))) q)) v w) (sym (start-seq r b k)) h)
  seq-first (Loop i e x r) b k v w (inr (inl h)) =
      inr (inl (subst (λ q. InTurn (at i (Some (Tests e))) q v w) (sym (start-seq r b k)) h))
  seq-first (Loop i e x r) b k v w (inr (inr (inl h))) =
      inr (inr (inl (subst (λ q. Follows at x (enters (at i (Some (Tests e))) q) v w) (sym (start-seq r b k)) h)))
  seq-first (Loop i e x r) b k v w (inr (inr (inr h))) = inr (inr (inr (seq-first r b k v w h)))
  seq-first (Leaves xs r) b k v w h = seq-first r b k v w h
  seq-first (Call i to f args r) b k v w (inl h) = inl (subst (λ q. InTurn (at i None) q v w) (sym (start-seq r b k)) h)
  seq-first (Call i to f args r) b k v w (inr h) = inr (seq-first r b k v w h)

  pub seq-second : (a b : Code) (k : Option V) (v : V) (w : Option V) → Follows at b k v w → Follows at (a ⨟ b) k v w
  seq-second End b k v w h = h
  seq-second (Opens x r) b k v w h = seq-second r b k v w h
  seq-second (Plain i a r) b k v w h = inr (seq-second r b k v w h)
  seq-second (Fork i e c r) b k v w h = inr (inr (seq-second r b k v w h))
  seq-second (Loop i e x r) b k v w h = inr (inr (inr (seq-second r b k v w h)))
  seq-second (Leaves xs r) b k v w h = seq-second r b k v w h
  seq-second (Call i to f args r) b k v w h = inr (seq-second r b k v w h)
