-- Chains that lead to what is wanted: along vertices that don't kill it, from one that uses it, and from what defines it.
use Rattle.std.proofs.Common.{◌≡◌, ℕ, List, [], ◌∷◌, Bool, true, false, Option, Some, ◌⊎◌, inl, inr, refl, sym, ◌∙◌, subst}
use Rattle.std.specs.Prelude.{IsTrue}
use Rattle.bit_rows.specs.Sets.{has}
use Rattle.c_language.proofs.Tests.{by_answer, false_true}
use Rattle.c_tree.specs.declared.program.Program.{Program}
use Rattle.dep_model.specs.declared.edge.Label.TheVariants.{Flow}
use Rattle.dep_model.specs.declared.location.Location.{Location}
use Rattle.dep_model.specs.Follows.{enters, InTurn, Chain, last, more}
use Rattle.dep_model.specs.Graphs.{edge}
use Rattle.dep_model.specs.SystemGraph.{Analysis}
use Rattle.dep_model.proofs.Membership.{IsIn}
use Rattle.simulation_locations.specs.Wanted.{defines_at, uses_at, kills_at, Next, WantedAt, used, before, IsFlowClosed}

module _ (p : Program) (a : Analysis) (kept : List Bool) (f : ℕ) (l : Location) where
  abbrev Wants : Option ℕ → Type 0
  Wants k = WantedAt p a kept f l k

  -- the pairs of some vertices are pairs of the function
  abbrev pub Turns : List ℕ → Option ℕ → Type 0
  Turns ns k = (v : ℕ) (w : Option ℕ) → InTurn ns k v w → Next p a f v w

  -- none of them kills the location
  abbrev pub Free : List ℕ → Type 0
  Free ns = (n : ℕ) → IsIn ns n → kills_at p a n l ≡ false

  -- what is wanted behind them is wanted before them
  pub through : (ns : List ℕ) (k : Option ℕ) → Turns ns k → Free ns → Wants k → Wants (enters ns k)
  through [] k turns free h = h
  through (n ∷ ns) k turns free h =
      before (turns n (enters ns k) (inl (refl, refl))) (free n (inl refl)) (through ns k (λ v w t. turns v w (inr t)) (λ m i. free m (inr i)) h)

  -- what a kept one of them may use is wanted before them
  pub used_in : (ns : List ℕ) (k : Option ℕ) → Turns ns k → Free ns → (n : ℕ) → IsIn ns n → IsTrue (has kept n) → uses_at p a n l ≡ true → Wants (enters ns k)
  used_in [] k turns free n i is u = absurd i
  used_in (m ∷ ns) k turns free n (inl e) is u = subst (λ (x : ℕ). Wants (Some x)) (sym e) (used is u)
  used_in (m ∷ ns) k turns free n (inr i) is u =
      before (turns m (enters ns k) (inl (refl, refl))) (free m (inl refl)) (used_in ns k (λ v w t. turns v w (inr t)) (λ x j. free x (inr j)) n i is u)

  -- it is wanted directly after a vertex
  pub record IsBefore (v : ℕ) : Type 0 where
    pub next : Option ℕ
    pub pair : Next p a f v next
    pub wanted : Wants next

  -- what is wanted behind them is wanted directly after each of them
  pub behind : (ns : List ℕ) (k : Option ℕ) → Turns ns k → Free ns → (n : ℕ) → IsIn ns n → Wants k → IsBefore n
  behind [] k turns free n i h = absurd i
  behind (m ∷ ns) k turns free n (inl e) h =
      subst IsBefore e (record { next = enters ns k; pair = turns m (enters ns k) (inl (refl, refl)); wanted = through ns k (λ v w t. turns v w (inr t)) (λ x i. free x (inr i)) h })
  behind (m ∷ ns) k turns free n (inr i) h = behind ns k (λ v w t. turns v w (inr t)) (λ x j. free x (inr j)) n i h

  -- ---- the last of them that defines it

  pub record IsDefiner (ns : List ℕ) : Type 0 where
    pub vertex : ℕ
    pub member : IsIn ns vertex
    pub defined : defines_at p a vertex l ≡ true

  abbrev definer_later : (m : ℕ) (ns : List ℕ) → IsDefiner ns → IsDefiner (m ∷ ns)
  definer_later m ns d = record { vertex = d.vertex; member = inr d.member; defined = d.defined }

  -- one of them may define it, or none
  defined_or_not : (ns : List ℕ) → IsDefiner ns ⊎ ((n : ℕ) → IsIn ns n → defines_at p a n l ≡ false)
  defined_or_not [] = inr (λ n i. absurd i)
  defined_or_not (m ∷ ns) =
      by_answer (defines_at p a m l) (λ d. inl (record { vertex = m; member = inl refl; defined = d })) (λ d. elim (defined_or_not ns) [
        | inl w ↦ inl (definer_later m ns w)
        | inr none ↦ inr (λ n i. not_there n none d i)
      ])
    where
      not_there : (n : ℕ) → ((x : ℕ) → IsIn ns x → defines_at p a x l ≡ false) → defines_at p a m l ≡ false → IsIn (m ∷ ns) n → defines_at p a n l ≡ false
      not_there n none d (inl e) = subst (λ (x : ℕ). defines_at p a x l ≡ false) e d
      not_there n none d (inr i) = none n i

  pub record LastDefiner (ns : List ℕ) : Type 0 where
    pub definer : IsDefiner ns
    pub first : IsBefore definer.vertex

  -- where they kill what they define, and one of them defines it, it is wanted directly after one that does
  pub last_definer : (ns : List ℕ) (k : Option ℕ) → Turns ns k → ((n : ℕ) → IsIn ns n → kills_at p a n l ≡ defines_at p a n l) → Wants k → IsDefiner ns → LastDefiner ns
  last_definer [] k turns same h d = absurd d.member
  last_definer (m ∷ ns) k turns same h d = elim (defined_or_not ns) [
    | inl w ↦
        let r = last_definer ns k (λ v x t. turns v x (inr t)) (λ n i. same n (inr i)) h w in
        record { definer = definer_later m ns r.definer; first = r.first }
    | inr none ↦
        let here : defines_at p a m l ≡ true = is_first none d.member d.defined in
        record {
          definer = record { vertex = m; member = inl refl; defined = here };
          first = record {
            next = enters ns k;
            pair = turns m (enters ns k) (inl (refl, refl));
            wanted = through ns k (λ v x t. turns v x (inr t)) (λ n i. same n (inr i) ∙ none n i) h;
          };
        }
  ]
    where
      is_first : {n : ℕ} → ((x : ℕ) → IsIn ns x → defines_at p a x l ≡ false) → IsIn (m ∷ ns) n → defines_at p a n l ≡ true → defines_at p a m l ≡ true
      is_first none (inl e) is = subst (λ (x : ℕ). defines_at p a x l ≡ true) (sym e) is
      is_first {n = n} none (inr i) is = false_true (sym (none n i) ∙ is)

  -- ---- flow edges

  -- a chain leads from a vertex to a kept one that may use the location
  record LeadsOn (v : ℕ) : Type 0 where
    pub goal : ℕ
    pub is_kept : IsTrue (has kept goal)
    pub uses : uses_at p a goal l ≡ true
    pub chain : Chain (λ (x y : ℕ). Next p a f x (Some y)) (kills_at p a) l v goal

  leads_on : (v : ℕ) (w : Option ℕ) → Next p a f v w → Wants w → LeadsOn v
  leads_on v w pair (used {v = u} is uses) = record { goal = u; is_kept = is; uses = uses; chain = last pair }
  leads_on v w pair (before {v = u} {w = x} next kills h) =
      let r = leads_on u x next h in record { goal = r.goal; is_kept = r.is_kept; uses = r.uses; chain = more pair kills r.chain }

  -- what may define a location that is wanted directly after it is kept
  pub definer_kept : IsFlowClosed p a kept → (v : ℕ) (w : Option ℕ) → Next p a f v w → defines_at p a v l ≡ true → Wants w → IsTrue (has kept v)
  definer_kept closed v w pair defined h =
      let r = leads_on v w pair h in
      closed f (edge v r.goal Flow) (record { labelled = refl; flows = record { location = l; defined = defined; used = r.uses; chain = r.chain } }) r.is_kept
