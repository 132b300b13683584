-- Edges that a loop adds, turn by turn.
use Rattle.std.proofs.Common.{◌≡◌, ℕ, suc, ◌+◌, ◌<◌, ◌≤◌, ◌⊎◌, ◌↔◌, inl, inr, List, [], ◌∷◌, ◌++◌, length, get_or, take, Contains, sym, ap, ◌∙◌, subst, arith}
use Rattle.std.proofs.lemmas.List.{take_all}
use Rattle.std.proofs.Math.Seq.{take-suc}
use Rattle.std.proofs.lemmas.List.Elements.{Contains-push, Contains-push_cases, Contains-append_left, Contains-append_right, Contains-append_cases}
use Rattle.rule_closure.proofs.ListLemmas.{contains_none}
use Rattle.dep_model.specs.declared.edge.Edge.{Edge}
use Rattle.sdg.specs.SiteEdges.{Adds}

-- an edge of one of some things
pub record OneOf {X : Type 0} (Is : X → Edge → Type 0) (xs : List X) (e : Edge) : Type 0 where
  pub one : X
  pub member : Contains xs one
  pub is : Is one e

pub adds_same : (old new : List Edge) (Is More : Edge → Type 0) → Adds old new Is → ((e : Edge) → Is e ↔ More e) → Adds old new More
adds_same old new Is More adds same e = (
  λ m. elim ((adds e).0 m) [ inl a ↦ inl a | inr b ↦ inr ((same e).0 b) ],
  λ k. (adds e).1 (elim k [ inl a ↦ inl a | inr b ↦ inr ((same e).1 b) ]),
)

pub adds_none : (old new : List Edge) (Is : Edge → Type 0) → new ≡ old → ((e : Edge) → Is e → ⊥) → Adds old new Is
adds_none old new Is same none e = (
  λ m. inl (subst (λ xs. Contains xs e) same m),
  λ k. elim k [ inl a ↦ subst (λ xs. Contains xs e) (sym same) a | inr b ↦ absurd (none e b) ],
)

pub adds_one : (old new : List Edge) (x : Edge) (Is : Edge → Type 0) → new ≡ old ++ x ∷ [] → Is x → ((e : Edge) → Is e → e ≡ x) → Adds old new Is
adds_one old new x Is same here only e = (
  λ m. elim (Contains-push_cases old x e (subst (λ xs. Contains xs e) same m)) [ inl a ↦ inl a | inr q ↦ inr (subst Is q here) ],
  λ k. subst (λ xs. Contains xs e) (sym same) (elim k [
    | inl a ↦ Contains-append_left old (x ∷ []) e a
    | inr b ↦ subst (Contains (old ++ x ∷ [])) (sym (only e b)) (Contains-push old x)
  ]),
)

pub adds_list : (old new xs : List Edge) → new ≡ old ++ xs → Adds old new (Contains xs)
adds_list old new xs same e = (
  λ m. Contains-append_cases old xs e (subst (λ ys. Contains ys e) same m),
  λ k. subst (λ ys. Contains ys e) (sym same) (elim k [
    | inl a ↦ Contains-append_left old xs e a
    | inr b ↦ Contains-append_right old xs e b
  ]),
)

pub adds_both : (old mid new : List Edge) (Is More : Edge → Type 0) → Adds old mid Is → Adds mid new More → Adds old new (λ e. Is e ⊎ More e)
adds_both old mid new Is More first second e = (
  λ m. elim ((second e).0 m) [
    | inl a ↦ elim ((first e).0 a) [ inl b ↦ inl b | inr c ↦ inr (inl c) ]
    | inr d ↦ inr (inr d)
  ],
  λ k. (second e).1 (elim k [
    | inl b ↦ inl ((first e).1 (inl b))
    | inr h ↦ elim h [ inl c ↦ inl ((first e).1 (inr c)) | inr d ↦ inr d ]
  ]),
)

-- of two kinds of edges after one another, where nothing stood before, and the list was then put in order
pub joined_in_order : (none mid last sorted : List Edge) (Is More : Edge → Type 0) → none ≡ [] → Adds none mid Is → Adds mid last More
    → ((e : Edge) → Contains sorted e ↔ Contains last e) → (e : Edge) → Contains sorted e ↔ (Is e ⊎ More e)
joined_in_order none mid last sorted Is More empty first second same e = (
  λ m. elim ((second e).0 ((same e).0 m)) [
    | inl a ↦ elim ((first e).0 a) [ inl b ↦ absurd (contains_none e (subst (λ xs. Contains xs e) empty b)) | inr b ↦ inl b ]
    | inr b ↦ inr b
  ],
  λ k. (same e).1 ((second e).1 (elim k [ inl a ↦ inl ((first e).1 (inr a)) | inr b ↦ inr b ])),
)

module _ {X : Type 0} (Is : X → Edge → Type 0) (xs : List X) (start : List Edge) where
  pub turns_begin : (new : List Edge) → new ≡ start → Adds start new (OneOf Is (take 0 xs))
  turns_begin new same = adds_none start new (OneOf Is (take 0 xs)) same (λ e o. contains_none o.one o.member)

  pub turns_more : (i : ℕ) (d : X) (old new : List Edge) → i < length xs → Adds start old (OneOf Is (take i xs)) → Adds old new (Is (get_or xs i d)) → Adds start new (OneOf Is (take (i + 1) xs))
  turns_more i d old new low before turn =
      let x = get_or xs i d in
      let one : i + 1 ≡ suc i = omega arith in
      let next : take (i + 1) xs ≡ take i xs ++ x ∷ [] = ap (λ n. take n xs) one ∙ take-suc xs i d low in
      adds_same start new (λ e. OneOf Is (take i xs) e ⊎ Is x e) (OneOf Is (take (i + 1) xs)) (adds_both start old new (OneOf Is (take i xs)) (Is x) before turn) (λ e. (
        λ h. elim h [
          | inl o ↦ record { one = o.one; member = subst (λ l. Contains l o.one) (sym next) (Contains-append_left (take i xs) (x ∷ []) o.one o.member); is = o.is }
          | inr here ↦ record { one = x; member = subst (λ l. Contains l x) (sym next) (Contains-push (take i xs) x); is = here }
        ],
        λ o. elim (Contains-push_cases (take i xs) x o.one (subst (λ l. Contains l o.one) next o.member)) [
          | inl m ↦ inl (record { one = o.one; member = m; is = o.is })
          | inr q ↦ inr (subst (λ y. Is y e) (sym q) o.is)
        ],
      ))

  pub turns_end : (i : ℕ) (new : List Edge) → length xs ≤ i → Adds start new (OneOf Is (take i xs)) → Adds start new (OneOf Is xs)
  turns_end i new high adds = subst (λ l. Adds start new (OneOf Is l)) (take_all i xs high) adds
