-- The pairs of controlling and controlled vertices of code, under the vertices of its controllers.
use Rattle.std.proofs.Common.{◌≡◌, ℕ, ℤ, List, [], ◌∷◌, ◌++◌, ◌⊎◌, inl, inr, Some, None, refl, ap, ◌∙◌, subst}
use Rattle.c_language.specs.Code.{Code, End, Opens, Plain, Fork, Loop, Leaves, Call, ◌⨟◌}
use Rattle.dep_model.specs.declared.skeleton.Pair.{Pair}
use Rattle.dep_model.specs.Controls.{Controller, Controls}
use Rattle.control_deps.specs.Walk.{from_all, joined}
use Rattle.dep_model.proofs.Membership.{IsIn, in_first, in_second, in_either}
use Rattle.dep_model.specs.Pairs.{pair}

-- from one of some vertices to one of others
abbrev pub Joins : List ℕ → List ℕ → Pair → Type 0
Joins ks ts x = IsIn ks x.from × IsIn ts x.to

pub one_joins : (ks : List ℕ) (t : ℕ) (x : Pair) → IsIn (from_all ks t) x → IsIn ks x.from × (t ≡ x.to)
one_joins [] t x h = absurd h
one_joins (k ∷ ks) t x (inl e) = (inl (ap (λ (y : Pair). y.from) e), ap (λ (y : Pair). y.to) e)
one_joins (k ∷ ks) t x (inr h) = let r = one_joins ks t x h in (inr r.0, r.1)

pub in_from_all : (ks : List ℕ) (t : ℕ) (x : Pair) → IsIn ks x.from → t ≡ x.to → IsIn (from_all ks t) x
in_from_all [] t x h e = absurd h
in_from_all (k ∷ ks) t x (inl f) e = inl (ap (λ a. pair a t) f ∙ ap (λ b. pair x.from b) e)
in_from_all (k ∷ ks) t x (inr h) e = inr (in_from_all ks t x h e)

pub in_joined : (ks ts : List ℕ) (x : Pair) → Joins ks ts x → IsIn (joined ks ts) x
in_joined ks [] x (h, t) = absurd t
in_joined ks (y ∷ ts) x (h, inl e) = in_first (from_all ks y) (joined ks ts) x (in_from_all ks y x h e)
in_joined ks (y ∷ ts) x (h, inr t) = in_second (from_all ks y) (joined ks ts) x (in_joined ks ts x (h, t))

pub of_joined : (ks ts : List ℕ) (x : Pair) → IsIn (joined ks ts) x → Joins ks ts x
of_joined ks [] x h = absurd h
of_joined ks (y ∷ ts) x h = elim (in_either (from_all ks y) (joined ks ts) x h) [
  | inl t ↦ let r = one_joins ks y x t in (r.0, inl r.1)
  | inr t ↦ let r = of_joined ks ts x t in (r.0, inr r.1)
]

module _ (own : ℕ → List ℕ) where
  -- statements have the controllers `ks`, or those that a test gives
  abbrev pub Under : Code → List ℕ → Pair → Type 0
  Under End ks x = ⊥
  Under (Opens v r) ks x = Under r ks x
  Under (Plain j a r) ks x = Joins ks (own j) x ⊎ Under r ks x
  Under (Fork j e c r) ks x = Joins ks (own j) x ⊎ (((v : ℤ) × Under (c v) (own j) x) ⊎ Under r ks x)
  Under (Loop j e b r) ks x = Joins ks (own j) x ⊎ (Joins (own j) (own j) x ⊎ (Under b (own j) x ⊎ Under r ks x))
  Under (Leaves vs r) ks x = Under r ks x
  Under (Call j to f args r) ks x = Joins ks (own j) x ⊎ Under r ks x

  -- one list after another
  pub under_first : (a b : Code) (ks : List ℕ) (x : Pair) → Under a ks x → Under (a ⨟ b) ks x
  under_first End b ks x h = absurd h
  under_first (Opens v r) b ks x h = under_first r b ks x h
  under_first (Plain j a r) b ks x (inl h) = inl h
  under_first (Plain j a r) b ks x (inr h) = inr (under_first r b ks x h)
  under_first (Fork j e c r) b ks x (inl h) = inl h
  under_first (Fork j e c r) b ks x (inr (inl h)) = inr (inl h)
  under_first (Fork j e c r) b ks x (inr (inr h)) = inr (inr (under_first r b ks x h))
  under_first (Loop j e y r) b ks x (inl h) = inl h
  under_first (Loop j e y r) b ks x (inr (inl h)) = inr (inl h)
  under_first (Loop j e y r) b ks x (inr (inr (inl h))) = inr (inr (inl h))
  under_first (Loop j e y r) b ks x (inr (inr (inr h))) = inr (inr (inr (under_first r b ks x h)))
  under_first (Leaves vs r) b ks x h = under_first r b ks x h
  under_first (Call j to f args r) b ks x (inl h) = inl h
  under_first (Call j to f args r) b ks x (inr h) = inr (under_first r b ks x h)

  pub under_second : (a b : Code) (ks : List ℕ) (x : Pair) → Under b ks x → Under (a ⨟ b) ks x
  under_second End b ks x h = h
  under_second (Opens v r) b ks x h = under_second r b ks x h
  under_second (Plain j a r) b ks x h = inr (under_second r b ks x h)
  under_second (Fork j e c r) b ks x h = inr (inr (under_second r b ks x h))
  under_second (Loop j e y r) b ks x h = inr (inr (inr (under_second r b ks x h)))
  under_second (Leaves vs r) b ks x h = under_second r b ks x h
  under_second (Call j to f args r) b ks x h = inr (under_second r b ks x h)

  pub under_seq : (a b : Code) (ks : List ℕ) (x : Pair) → Under (a ⨟ b) ks x → Under a ks x ⊎ Under b ks x
  under_seq End b ks x h = inr h
  under_seq (Opens v r) b ks x h = under_seq r b ks x h
  under_seq (Plain j a r) b ks x (inl h) = inl (inl h)
  under_seq (Plain j a r) b ks x (inr h) = elim (under_seq r b ks x h) [ inl t ↦ inl (inr t) | inr t ↦ inr t ]
  under_seq (Fork j e c r) b ks x (inl h) = inl (inl h)
  under_seq (Fork j e c r) b ks x (inr (inl h)) = inl (inr (inl h))
  under_seq (Fork j e c r) b ks x (inr (inr h)) = elim (under_seq r b ks x h) [ inl t ↦ inl (inr (inr t)) | inr t ↦ inr t ]
  under_seq (Loop j e y r) b ks x (inl h) = inl (inl h)
  under_seq (Loop j e y r) b ks x (inr (inl h)) = inl (inr (inl h))
  under_seq (Loop j e y r) b ks x (inr (inr (inl h))) = inl (inr (inr (inl h)))
  under_seq (Loop j e y r) b ks x (inr (inr (inr h))) = elim (under_seq r b ks x h) [ inl t ↦ inl (inr (inr (inr t))) | inr t ↦ inr t ]
  under_seq (Leaves vs r) b ks x h = under_seq r b ks x h
  under_seq (Call j to f args r) b ks x (inl h) = inl (inl h)
  under_seq (Call j to f args r) b ks x (inr h) = elim (under_seq r b ks x h) [ inl t ↦ inl (inr t) | inr t ↦ inr t ]

  -- more controllers
  pub under_more : (c : Code) (ks ls : List ℕ) → ((k : ℕ) → IsIn ks k → IsIn ls k) → (x : Pair) → Under c ks x → Under c ls x
  under_more End ks ls m x h = absurd h
  under_more (Opens v r) ks ls m x h = under_more r ks ls m x h
  under_more (Plain j a r) ks ls m x (inl h) = inl (m x.from h.0, h.1)
  under_more (Plain j a r) ks ls m x (inr h) = inr (under_more r ks ls m x h)
  under_more (Fork j e c r) ks ls m x (inl h) = inl (m x.from h.0, h.1)
  under_more (Fork j e c r) ks ls m x (inr (inl h)) = inr (inl h)
  under_more (Fork j e c r) ks ls m x (inr (inr h)) = inr (inr (under_more r ks ls m x h))
  under_more (Loop j e y r) ks ls m x (inl h) = inl (m x.from h.0, h.1)
  under_more (Loop j e y r) ks ls m x (inr (inl h)) = inr (inl h)
  under_more (Loop j e y r) ks ls m x (inr (inr (inl h))) = inr (inr (inl h))
  under_more (Loop j e y r) ks ls m x (inr (inr (inr h))) = inr (inr (inr (under_more r ks ls m x h)))
  under_more (Leaves vs r) ks ls m x h = under_more r ks ls m x h
  under_more (Call j to f args r) ks ls m x (inl h) = inl (m x.from h.0, h.1)
  under_more (Call j to f args r) ks ls m x (inr h) = inr (under_more r ks ls m x h)

  join_either : (ks ls ts : List ℕ) (x : Pair) → Joins (ks ++ ls) ts x → Joins ks ts x ⊎ Joins ls ts x
  join_either ks ls ts x h = elim (in_either ks ls x.from h.0) [ inl t ↦ inl (t, h.1) | inr t ↦ inr (t, h.1) ]

  -- two lists of controllers
  pub under_either : (c : Code) (ks ls : List ℕ) (x : Pair) → Under c (ks ++ ls) x → Under c ks x ⊎ Under c ls x
  under_either End ks ls x h = absurd h
  under_either (Opens v r) ks ls x h = under_either r ks ls x h
  under_either (Plain j a r) ks ls x (inl h) = elim (join_either ks ls (own j) x h) [ inl t ↦ inl (inl t) | inr t ↦ inr (inl t) ]
  under_either (Plain j a r) ks ls x (inr h) = elim (under_either r ks ls x h) [ inl t ↦ inl (inr t) | inr t ↦ inr (inr t) ]
  under_either (Fork j e c r) ks ls x (inl h) = elim (join_either ks ls (own j) x h) [ inl t ↦ inl (inl t) | inr t ↦ inr (inl t) ]
  under_either (Fork j e c r) ks ls x (inr (inl h)) = inl (inr (inl h))
  under_either (Fork j e c r) ks ls x (inr (inr h)) = elim (under_either r ks ls x h) [ inl t ↦ inl (inr (inr t)) | inr t ↦ inr (inr (inr t)) ]
  under_either (Loop j e y r) ks ls x (inl h) = elim (join_either ks ls (own j) x h) [ inl t ↦ inl (inl t) | inr t ↦ inr (inl t) ]
  under_either (Loop j e y r) ks ls x (inr (inl h)) = inl (inr (inl h))
  under_either (Loop j e y r) ks ls x (inr (inr (inl h))) = inl (inr (inr (inl h)))
  under_either (Loop j e y r) ks ls x (inr (inr (inr h))) = elim (under_either r ks ls x h) [ inl t ↦ inl (inr (inr (inr t))) | inr t ↦ inr (inr (inr (inr t))) ]
  under_either (Leaves vs r) ks ls x h = under_either r ks ls x h
  under_either (Call j to f args r) ks ls x (inl h) = elim (join_either ks ls (own j) x h) [ inl t ↦ inl (inl t) | inr t ↦ inr (inl t) ]
  under_either (Call j to f args r) ks ls x (inr h) = elim (under_either r ks ls x h) [ inl t ↦ inl (inr t) | inr t ↦ inr (inr t) ]

  -- ---- as control by nesting

  module _ (entry : List ℕ) where
    abbrev pub vertices_of : Controller → List ℕ
    vertices_of None = entry
    vertices_of (Some i) = own i

    abbrev pub IsControlled : Code → Controller → Pair → Type 0
    IsControlled c k x = (v : Controller) × (i : ℕ) × Controls c k v i × Joins (vertices_of v) (own i) x

    pub controlled_of : (c : Code) (k : Controller) (x : Pair) → Under c (vertices_of k) x → IsControlled c k x
    controlled_of End k x h = absurd h
    controlled_of (Opens v r) k x h = controlled_of r k x h
    controlled_of (Plain j a r) k x (inl h) = (k, j, inl (refl, refl), h)
    controlled_of (Plain j a r) k x (inr h) = let t = controlled_of r k x h in (t.0, t.1, inr t.2, t.3)
    controlled_of (Fork j e c r) k x (inl h) = (k, j, inl (refl, refl), h)
    controlled_of (Fork j e c r) k x (inr (inl h)) = let t = controlled_of (c h.0) (Some j) x h.1 in (t.0, t.1, inr (inl (h.0, t.2)), t.3)
    controlled_of (Fork j e c r) k x (inr (inr h)) = let t = controlled_of r k x h in (t.0, t.1, inr (inr t.2), t.3)
    controlled_of (Loop j e y r) k x (inl h) = (k, j, inl (refl, refl), h)
    controlled_of (Loop j e y r) k x (inr (inl h)) = (Some j, j, inr (inl (refl, refl)), h)
    controlled_of (Loop j e y r) k x (inr (inr (inl h))) = let t = controlled_of y (Some j) x h in (t.0, t.1, inr (inr (inl t.2)), t.3)
    controlled_of (Loop j e y r) k x (inr (inr (inr h))) = let t = controlled_of r k x h in (t.0, t.1, inr (inr (inr t.2)), t.3)
    controlled_of (Leaves vs r) k x h = controlled_of r k x h
    controlled_of (Call j to f args r) k x (inl h) = (k, j, inl (refl, refl), h)
    controlled_of (Call j to f args r) k x (inr h) = let t = controlled_of r k x h in (t.0, t.1, inr t.2, t.3)

    joins_at : (k v : Controller) (i j : ℕ) (x : Pair) → v ≡ k → i ≡ j → Joins (vertices_of v) (own i) x → Joins (vertices_of k) (own j) x
    joins_at k v i j x p q h = (subst (λ w. IsIn (vertices_of w) x.from) p h.0, subst (λ w. IsIn (own w) x.to) q h.1)

    pub of_controlled : (c : Code) (k v : Controller) (i : ℕ) (x : Pair) → Controls c k v i → Joins (vertices_of v) (own i) x → Under c (vertices_of k) x
    of_controlled End k v i x h j = absurd h
    of_controlled (Opens y r) k v i x h j = of_controlled r k v i x h j
    of_controlled (Plain y a r) k v i x (inl h) j = inl (joins_at k v i y x h.0 h.1 j)
    of_controlled (Plain y a r) k v i x (inr h) j = inr (of_controlled r k v i x h j)
    of_controlled (Fork y e c r) k v i x (inl h) j = inl (joins_at k v i y x h.0 h.1 j)
    of_controlled (Fork y e c r) k v i x (inr (inl h)) j = inr (inl (h.0, of_controlled (c h.0) (Some y) v i x h.1 j))
    of_controlled (Fork y e c r) k v i x (inr (inr h)) j = inr (inr (of_controlled r k v i x h j))
    of_controlled (Loop y e b r) k v i x (inl h) j = inl (joins_at k v i y x h.0 h.1 j)
    of_controlled (Loop y e b r) k v i x (inr (inl h)) j = inr (inl (joins_at (Some y) v i y x h.0 h.1 j))
    of_controlled (Loop y e b r) k v i x (inr (inr (inl h))) j = inr (inr (inl (of_controlled b (Some y) v i x h j)))
    of_controlled (Loop y e b r) k v i x (inr (inr (inr h))) j = inr (inr (inr (of_controlled r k v i x h j)))
    of_controlled (Leaves vs r) k v i x h j = of_controlled r k v i x h j
    of_controlled (Call y to f args r) k v i x (inl h) j = inl (joins_at k v i y x h.0 h.1 j)
    of_controlled (Call y to f args r) k v i x (inr h) j = inr (of_controlled r k v i x h j)
