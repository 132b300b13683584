-- Whole rounds with the step of any function: where one has no new put the words are exactly the true facts, and rounds are few.
use Rattle.std.proofs.Common.{◌≡◌, ◌≢◌, ℕ, zero, suc, ◌+◌, ◌*◌, ◌%◌, ◌^◌, ◌<◌, ◌≤◌, ◌⊎◌, ◌↔◌, Bool, true, false, List, [], ◌∷◌, length, get_or, set, eqb, sym, refl, ap, ◌∙◌, subst, arith, inl, inr, ⊎_elim}
use Rattle.std.specs.Prelude.{bit_or, slice_index}
use Rattle.std.specs.Int.{bit_at}
use Rattle.std.proofs.lemmas.Nat.Bits.{bit_at_or, bit_at-lt, same_from_bits}
use Rattle.std.proofs.lemmas.Bool.{cases_eq, eqb-true, ne_eqb}
use Rattle.bit_rows.specs.Words.{word_bit}
use Rattle.crew.specs.Counts.{Has, one_if, total, times}
use Rattle.crew.specs.SharedWords.{Holds, AreWithin, bit}
use Rattle.crew.specs.Machine.{Moment, Event, Putting, IsLawful, AreLawful, after, after_all, opening, worker}
use Rattle.crew.specs.Rounds.{Step, MayPut, IsOn, IsSettled, Round, last, IsLawfulRound, IsWhole, HasNewPut, IsNewRound, IsSeries, IsSoundStep, IsCompleteStep}
use Rattle.crew.proofs.BitLemmas.{set_get, within_bits, low_place, bit_here, bit_is_fact, word_of, place_of}
use Rattle.crew.proofs.Machines.{Safe, safe_always, within_after, within_after_all}

-- ---- which put is new
same_or_not : (xs ys : List ℕ) → (xs ≡ ys) ⊎ (xs ≢ ys)
same_or_not [] [] = inl refl
same_or_not [] (y ∷ ys) = inr (λ e. absurd (let l = ap length e in omega arith))
same_or_not (x ∷ xs) [] = inr (λ e. absurd (let l = ap length e in omega arith))
same_or_not (x ∷ xs) (y ∷ ys) = ⊎_elim
    (λ h. ⊎_elim (λ t. inl (cc)) (λ t. inr (λ e. t (ap tail_of e))) (same_or_not xs ys))
    (λ h. inr (λ e. h (ap (λ zs. get_or zs 0 0) e)))
    (cases_eq x y)
  where
    tail_of : List ℕ → List ℕ
    tail_of [] = []
    tail_of (z ∷ zs) = zs

-- without a new put the words stay as they are
pub same_facts : (end_ : ℕ) (m : Moment) (es : List Event) → ¬ (HasNewPut end_ m es) → (after_all end_ m es).facts ≡ m.facts
same_facts end_ m [] none = refl
same_facts end_ m (e ∷ es) none = ⊎_elim
    (λ same. same_facts end_ (after end_ m e) es (λ h. none (inr h)) ∙ same)
    (λ other. absurd (none (inl other)))
    (same_or_not (after end_ m e).facts m.facts)

-- a bit below k that one word lacks and the other has, or none
lacking : (x bits k : ℕ) → ((i : ℕ) × (i < k) × (bit_at x i ≢ 1) × (bit_at bits i ≡ 1)) ⊎ ((i : ℕ) → i < k → bit_at bits i ≡ 1 → bit_at x i ≡ 1)
lacking x bits zero = inr (λ i h. absurd (omega arith))
lacking x bits (suc k) = ⊎_elim
    (λ found. inl (found.0, (let h = found.1 in omega arith), found.2, found.3))
    (λ none. ⊎_elim
    (λ put. ⊎_elim (λ there. inr (at_last none (λ b. there))) (λ new. inl (k, omega arith, new, put)) (cases_eq (bit_at x k) 1))
    (λ off. inr (at_last none (λ b. absurd (off b))))
    (cases_eq (bit_at bits k) 1))
    (lacking x bits k)
  where
    at_last : ((i : ℕ) → i < k → bit_at bits i ≡ 1 → bit_at x i ≡ 1) → (bit_at bits k ≡ 1 → bit_at x k ≡ 1) → (i : ℕ) → i < suc k → bit_at bits i ≡ 1 → bit_at x i ≡ 1
    at_last below here i h b = ⊎_elim (λ e. subst (λ j. bit_at x j ≡ 1) (sym e) (here (subst (λ j. bit_at bits j ≡ 1) e b))) (λ ne. below i (omega arith) b) (cases_eq i k)

-- a word that has all of the bits stays as it is
or_same : (x bits : ℕ) → bits < 2 ^ 64 → ((i : ℕ) → i < 64 → bit_at bits i ≡ 1 → bit_at x i ≡ 1) → bit_or x bits ≡ x
or_same x bits small all = same_from_bits (bit_or x bits) x (λ i.
    let o = bit_at_or x bits i in
    let l = bit_at-lt bits i in
    let m = bit_at-lt x i in
    ⊎_elim (λ b. let a = all i (low_place bits i small b) b in omega arith) (λ nb. omega arith) (cases_eq (bit_at bits i) 1))

not_held : (ws : List ℕ) (w i : ℕ) → i < 64 → bit ws w i ≢ 1 → ¬ (Holds ws (64 * w + i))
not_held ws w i low lacks h = lacks (sym (ap (λ k. bit ws w k) (place_of w i low)) ∙ sym (ap (λ k. bit ws k ((64 * w + i) % 64)) (word_of w i low)) ∙ eqb-true _ 1 h)

-- ---- a new put puts a new fact
abbrev Gained : List ℕ → List ℕ → Type 0
Gained old new = (n : ℕ) × (¬ (Holds old n)) × Holds new n

gained_at : (May : Putting) (end_ : ℕ) (m : Moment) (e : Event) → IsLawful May m e → (after end_ m e).facts ≢ m.facts → Gained m.facts (after end_ m e).facts
gained_at May end_ m (Event.draws w) l new = absurd (new refl)
gained_at May end_ m (Event.looks w j) l new = absurd (new refl)
gained_at May end_ m (Event.splits w) l new = absurd (new refl)
gained_at May end_ m (Event.joins w v) l new = absurd (new refl)
gained_at May end_ m (Event.puts w j bits) l new =
    let x = slice_index m.facts j in
    ⊎_elim
    (λ found.
    let i = found.0 in
    let o = bit_at_or x bits i in
    let b = bit_at-lt x i in
    let p = found.3 in
    let set_is : bit (set m.facts j (bit_or x bits)) j i ≡ 1 = bit_here m.facts j (bit_or x bits) i l.inside ∙ omega arith in
    (64 * j + i, not_held m.facts j i found.1 found.2, bit_is_fact (set m.facts j (bit_or x bits)) j i found.1 set_is))
    (λ none. absurd (new (ap (λ y. set m.facts j y) (or_same x bits l.fits none) ∙ set_get m.facts j)))
    (lacking x bits 64)

pub gained : (May : Putting) (end_ : ℕ) (m : Moment) (es : List Event) → AreLawful May end_ m es → HasNewPut end_ m es → Gained m.facts (after_all end_ m es).facts
gained May end_ m [] l h = absurd h
gained May end_ m (e ∷ es) l h = ⊎_elim
    (λ new. let g = gained_at May end_ m e l.0 new in (g.0, g.1, within_after_all end_ (after end_ m e) es g.0 g.2))
    (λ later. let g = gained May end_ (after end_ m e) es l.1 later in (g.0, (λ held. g.1 (within_after end_ m e g.0 held)), g.2))
    h

-- ---- counting the facts that words hold
abbrev held : List ℕ → List ℕ → ℕ
held ws facts = total (λ n. one_if (word_bit ws n)) facts

one_if_le : (a b : Bool) → (a ≡ true → b ≡ true) → one_if a ≤ one_if b
one_if_le true b h = let e : one_if b ≡ 1 = ap one_if (h refl) in omega arith
one_if_le false b h = omega arith

one_if_not : (a : Bool) → ¬ (a ≡ true) → one_if a ≡ 0
one_if_not true h = absurd (h refl)
one_if_not false h = refl

held_long : (ws facts : List ℕ) → held ws facts ≤ length facts
held_long ws [] = omega arith
held_long ws (n ∷ ns) = let r = held_long ws ns in let o = one_if_le (word_bit ws n) true (λ h. refl) in omega arith

held_le : (old new facts : List ℕ) → AreWithin old new → held old facts ≤ held new facts
held_le old new [] within = omega arith
held_le old new (n ∷ ns) within = let r = held_le old new ns within in let o = one_if_le (word_bit old n) (word_bit new n) (within n) in omega arith

held_more : (old new facts : List ℕ) (n : ℕ) → AreWithin old new → Has facts n → ¬ (Holds old n) → Holds new n → held old facts < held new facts
held_more old new [] n within has before now = absurd (omega arith)
held_more old new (k ∷ ks) n within has before now = ⊎_elim
    (λ (e : n ≡ k).
    let a : one_if (word_bit old k) ≡ 0 = one_if_not (word_bit old k) (λ h. before (subst (λ j. Holds old j) (sym e) h)) in
    let b : one_if (word_bit new k) ≡ 1 = ap one_if (subst (λ j. Holds new j) e now) in
    let r = held_le old new ks within in
    omega arith)
    (λ ne.
    let z : one_if (eqb n k) ≡ 0 = ap one_if (ne_eqb n k ne) in
    let r = held_more old new ks n within (omega arith) before now in
    let o = one_if_le (word_bit old k) (word_bit new k) (within k) in
    omega arith)
    (cases_eq n k)

-- ---- the laws
may_sound : (Steps : Step) (True? : ℕ → Type 0) (agenda : List ℕ) → IsSoundStep Steps True? → (drawn known : List ℕ) (n : ℕ) → ((m : ℕ) → Holds known m → True? m) → MayPut Steps agenda drawn known n → True? n
may_sound Steps True? agenda sound drawn known n all may = sound (slice_index agenda may.0) known all n may.3

pub round_is_safe : (Steps : Step) (True? : ℕ → Type 0) (start : List ℕ) (r : Round) → IsSoundStep Steps True? → ((n : ℕ) → Holds start n → True? n) → IsLawfulRound Steps start r
    → Safe True? start (length r.agenda) (last start r)
round_is_safe Steps True? start r sound all lawful = safe_always (MayPut Steps r.agenda) True? start (length r.agenda) (may_sound Steps True? r.agenda sound) all r.events lawful

on_or_not : (agenda : List ℕ) (f : ℕ) → IsOn agenda f ⊎ ¬ (IsOn agenda f)
on_or_not [] f = inr (λ on. let h = on.1 in absurd (omega arith))
on_or_not (g ∷ gs) f = ⊎_elim
    (λ e. inl (0, omega arith, e))
    (λ ne. ⊎_elim
    (λ on. inl (suc on.0, (let h = on.1 in omega arith), on.2))
    (λ not. inr (λ on. off ne not on.0 on.1 on.2))
    (on_or_not gs f))
    (cases_eq g f)
  where
    off : g ≢ f → ¬ (IsOn gs f) → (k : ℕ) → k < length (g ∷ gs) → slice_index (g ∷ gs) k ≢ f
    off ne not zero h is = ne is
    off ne not (suc k) h is = not (k, omega arith, is)

-- after a whole round without a new put, in which each function outside the agenda was settled, the words are exactly the true facts
pub whole_round_is_exact : (Steps : Step) (True? : ℕ → Type 0) (start : List ℕ) (r : Round) → IsSoundStep Steps True? → IsCompleteStep Steps True? (length start)
    → ((n : ℕ) → Holds start n → True? n) → IsLawfulRound Steps start r → IsWhole Steps start r → ¬ (IsNewRound start r)
    → ((f : ℕ) → ¬ (IsOn r.agenda f) → IsSettled Steps start f)
    → (n : ℕ) → Holds (last start r).facts n ↔ True? n
whole_round_is_exact Steps True? start r sound complete all lawful whole none outside n =
    let safe = round_is_safe Steps True? start r sound all lawful in
    let same : (last start r).facts ≡ start = same_facts (length r.agenda) (opening start) r.events none in
    let settled : (f : ℕ) → IsSettled Steps start f = λ f. ⊎_elim
    (λ on k given.
    let w = whole on.0 on.1 in
    let known = w.2 k (subst (λ g. Steps g start k) (sym on.2) given) in
    subst (λ (l : List ℕ). Holds l k) same (within_bits (worker (last start r) w.0).known (last start r).facts (safe.known w.0) k known))
    (λ off. outside f off)
    (on_or_not r.agenda f) in
    (safe.only_true n, λ true_fact. subst (λ (l : List ℕ). Holds l n) (sym same) (complete start refl settled n true_fact))

-- rounds that follow one another, each but the last with a new put, are at most one more than there are true facts
pub rounds_are_few : (Steps : Step) (True? : ℕ → Type 0) (facts : List ℕ) → IsSoundStep Steps True? → ((n : ℕ) → True? n → Has facts n)
    → (start : List ℕ) → ((n : ℕ) → Holds start n → True? n) → (rs : List Round) → IsSeries Steps start rs → length rs + held start facts ≤ length facts + 1
rounds_are_few Steps True? facts sound every start all [] series = let l = held_long start facts in omega arith
rounds_are_few Steps True? facts sound every start all (r ∷ []) series = let l = held_long start facts in omega arith
rounds_are_few Steps True? facts sound every start all (r ∷ q ∷ rs) series =
    let safe = round_is_safe Steps True? start r sound all series.0 in
    let new = (last start r).facts in
    let g = gained (MayPut Steps r.agenda) (length r.agenda) (opening start) r.events series.0 series.1 in
    let more = held_more start new facts g.0 (within_after_all (length r.agenda) (opening start) r.events) (every g.0 (safe.only_true g.0 g.2)) g.1 g.2 in
    let rest = rounds_are_few Steps True? facts sound every new safe.only_true (q ∷ rs) series.2 in
    omega arith
