-- Names, numbers, marks, characters and strings, and how long they are.
use Rattle.std.proofs.Common.{◌≡◌, ℕ, ◌+◌, ◌≤◌, ◌<◌, [], ◌∷◌, ◌++◌, length, drop, refl, sym, ap, ◌∙◌, subst, arith, true, false, Bool, Option, Some, inl, inr, codes}
use Rattle.std.proofs.lemmas.Bool.{and_parts, eqb-true, false_from_ne_true, or_cases}
use Rattle.std.specs.List.{list_all}
use Rattle.std.specs.Prelude.{slice_index, ◌==◌, ◌||◌, ◌&&◌, ◌⊎◌, not, bytes_eq}
use Rattle.std.proofs.lemmas.Slice.Eq.{bytes_eq-Decides}
use Rattle.c_language.specs.Words.{Bytes}
use Rattle.c_language.specs.Characters.{is_digit}
use Rattle.c_language.specs.Constants.{is_one_of, is_escape}
use Rattle.c_language.specs.Tokens.{is_plain, IsRun, marks, is_mark, IsLongest, IsCharacter, IsLiteral, LacksDigit, LacksTrigraph}
use Rattle.c_language.proofs.Tests.{by_answer, by_test}
use Rattle.c_lex.specs.declared.literal.Stage.{Stage}
use Rattle.c_lex.specs.declared.literal.Stage.TheVariants as stage
use Rattle.c_lex.specs.Scanning.{first, raised, run_len, inside_stage, stage_after, literal_from, literal_len, is_trigraph, is_single, is_pair, is_triple, mark_len, character_len}
use Rattle.c_lex.proofs.Places.{by_raised, NoneAt}
use Rattle.c_language.proofs.Lists.{any_passes}

-- ---- runs

pub run_is : {goes_on : ℕ → ℕ → Bool} {b : ℕ} {run rest : Bytes} → IsRun goes_on b run rest → run_len goes_on b (run ++ rest) ≡ length run
unfolding run_len
run_is IsRun.ends_text = refl
run_is (IsRun.ends h) = rw h refl
run_is (IsRun.more {b} {c} {run} {rest} h r) = rw (h, run_is r) (omega arith)

-- the bytes that go on behind this one, and the rest
pub record RunIs (goes_on : ℕ → ℕ → Bool) (b : ℕ) (bytes : Bytes) : Type 0 where
  pub run : Bytes
  pub rest : Bytes
  pub at : bytes ≡ run ++ rest
  pub len : run_len goes_on b bytes ≡ length run
  pub is : IsRun goes_on b run rest

pub run_found : (goes_on : ℕ → ℕ → Bool) (b : ℕ) (bytes : Bytes) → RunIs goes_on b bytes
unfolding run_len
run_found goes_on b [] = record { run = []; rest = []; at = refl; len = refl; is = IsRun.ends_text }
run_found goes_on b (c ∷ cs) = by_answer (goes_on b c)
    (λ t. let x = run_found goes_on c cs in record { run = c ∷ x.run; rest = x.rest; at = ap (λ (y : Bytes). c ∷ y) x.at; len = rw t (omega (arith, x.len)); is = IsRun.more t x.is })
    (λ f. record { run = []; rest = c ∷ cs; at = refl; len = rw f refl; is = IsRun.ends f })

pub run_starts : (goes_on : ℕ → ℕ → Bool) (b c : ℕ) (cs : Bytes) → goes_on b c ≡ true → run_len goes_on b (c ∷ cs) ≡ run_len goes_on c cs + 1
unfolding run_len
run_starts goes_on b c cs h = rw h refl

-- ---- marks

abbrev has_form : Bytes → Bool
has_form [] = false
has_form (a ∷ []) = is_single a
has_form (a ∷ (b ∷ [])) = is_pair a b
has_form (a ∷ (b ∷ (c ∷ []))) = is_triple a b c
has_form (a ∷ (b ∷ (c ∷ (d ∷ ds)))) = false

pub mark_form : (text : Bytes) → is_mark text ≡ true → has_form text ≡ true
mark_form text h =
    let x = any_passes (bytes_eq text) has_form marks h refl in
    let e : text ≡ x.0 = (bytes_eq-Decides text x.0).0 x.1 in
    ap has_form e ∙ x.2

one_of_passes : (some : Bytes) (form : ℕ → Bool) (b : ℕ) → is_one_of some b ≡ true → list_all form some ≡ true → form b ≡ true
one_of_passes some form b h a =
    let x = any_passes (λ c. c == b) form some h a in
    ap form (sym (eqb-true x.0 b x.1)) ∙ x.2

single_mark : (a : ℕ) → is_single a ≡ true → is_mark (a ∷ []) ≡ true
single_mark a h = one_of_passes (codes "()[]{};,:?.+-*/%&|^~!<>=") (λ a. is_mark (a ∷ [])) a h refl

pair_mark : (a b : ℕ) → is_pair a b ≡ true → is_mark (a ∷ b ∷ []) ≡ true
pair_mark a b h = elim (or_cases _ _ h) [
  | inl p ↦
      let q = and_parts _ _ p in
      ap (λ (x : ℕ). is_mark (a ∷ x ∷ [])) (eqb-true b 61 q.0) ∙ one_of_passes (codes "<>=!+-*/%&|^") (λ a. is_mark (a ∷ 61 ∷ [])) a q.1 refl
  | inr r ↦ elim (or_cases _ _ r) [
    | inl p ↦
        let q = and_parts _ _ p in
        ap (λ (x : ℕ). is_mark (a ∷ x ∷ [])) (sym (eqb-true a b q.0)) ∙ one_of_passes (codes "<>&|+-") (λ a. is_mark (a ∷ a ∷ [])) a q.1 refl
    | inr p ↦
        let q = and_parts _ _ p in
        ap (λ (x : ℕ). is_mark (x ∷ b ∷ [])) (eqb-true a 45 q.0) ∙ ap (λ (x : ℕ). is_mark (45 ∷ x ∷ [])) (eqb-true b 62 q.1)
  ]
]

triple_mark : (a b c : ℕ) → is_triple a b c ≡ true → is_mark (a ∷ b ∷ c ∷ []) ≡ true
triple_mark a b c h = elim (or_cases _ _ h) [
  | inl p ↦
      let q = and_parts _ _ p in
      let r = and_parts _ _ q.1 in
      ap (λ (x : ℕ). is_mark (a ∷ x ∷ c ∷ [])) (sym (eqb-true a b q.0)) ∙ ap (λ (x : ℕ). is_mark (a ∷ a ∷ x ∷ [])) (eqb-true c 61 r.0)
      ∙ one_of_passes (codes "<>") (λ a. is_mark (a ∷ a ∷ 61 ∷ [])) a r.1 refl
  | inr p ↦
      let q = and_parts _ _ p in
      let r = and_parts _ _ q.1 in
      ap (λ (x : ℕ). is_mark (x ∷ b ∷ c ∷ [])) (eqb-true a 46 q.0) ∙ ap (λ (x : ℕ). is_mark (46 ∷ x ∷ c ∷ [])) (eqb-true b 46 r.0) ∙ ap (λ (x : ℕ). is_mark (46 ∷ 46 ∷ x ∷ [])) (eqb-true c 46 r.1)
]

-- the longest mark at the front
pub record MarkIs (bytes : Bytes) (n : ℕ) : Type 0 where
  pub text : Bytes
  pub rest : Bytes
  pub at : bytes ≡ text ++ rest
  pub len : length text ≡ n
  pub is : is_mark text ≡ true

-- a mark at the front has a form of its length
front_form : (bytes text rest : Bytes) → is_mark text ≡ true → bytes ≡ text ++ rest
    → ((length text ≡ 1) × (is_single (slice_index bytes 0) ≡ true)) ⊎ (((length text ≡ 2) × (is_pair (slice_index bytes 0) (slice_index bytes 1) ≡ true)) ⊎ ((length text ≡ 3) × (is_triple (slice_index bytes 0) (slice_index bytes 1) (slice_index bytes 2) ≡ true)))
front_form bytes [] rest h e = let f : false ≡ true = mark_form [] h in absurd cc
front_form bytes (a ∷ []) rest h e = inl (refl, ap (λ (y : Bytes). is_single (slice_index y 0)) e ∙ mark_form (a ∷ []) h)
front_form bytes (a ∷ (b ∷ [])) rest h e = inr (inl (refl, ap (λ (y : Bytes). is_pair (slice_index y 0) (slice_index y 1)) e ∙ mark_form (a ∷ b ∷ []) h))
front_form bytes (a ∷ (b ∷ (c ∷ []))) rest h e = inr (inr (refl, ap (λ (y : Bytes). is_triple (slice_index y 0) (slice_index y 1) (slice_index y 2)) e ∙ mark_form (a ∷ b ∷ c ∷ []) h))
front_form bytes (a ∷ (b ∷ (c ∷ (d ∷ ds)))) rest h e = let f : false ≡ true = mark_form (a ∷ b ∷ c ∷ d ∷ ds) h in absurd cc

pub mark_longest : (bytes : Bytes) → IsLongest (mark_len bytes) bytes
mark_longest bytes text rest h e = elim (front_form bytes text rest h e) [
  | inl p ↦ by_answer (is_triple (slice_index bytes 0) (slice_index bytes 1) (slice_index bytes 2)) (λ t. rw t (omega (arith, p.0))) (λ f. by_answer (is_pair (slice_index bytes 0) (slice_index bytes 1)) (λ t. rw (f, t) (omega (arith, p.0))) (λ g. rw (f, g, p.1) (omega (arith, p.0))))
  | inr r ↦ elim r [
    | inl p ↦ by_answer (is_triple (slice_index bytes 0) (slice_index bytes 1) (slice_index bytes 2)) (λ t. rw t (omega (arith, p.0))) (λ f. rw (f, p.1) (omega (arith, p.0)))
    | inr p ↦ rw p.1 (omega (arith, p.0))
  ]
]

single_at : (bytes : Bytes) → is_single (slice_index bytes 0) ≡ true → MarkIs bytes 1
single_at [] h = absurd cc
single_at (a ∷ rest) h = record { text = a ∷ []; rest = rest; at = refl; len = refl; is = single_mark a h }

no_null : (text : Bytes) → is_mark text ≡ true → list_all (λ b. not (b == 0)) text ≡ true
no_null text h =
    let x = any_passes (bytes_eq text) (λ m. list_all (λ b. not (b == 0)) m) marks h refl in
    let e : text ≡ x.0 = (bytes_eq-Decides text x.0).0 x.1 in
    ap (λ (y : Bytes). list_all (λ b. not (b == 0)) y) e ∙ x.2

pair_at : (bytes : Bytes) → is_pair (slice_index bytes 0) (slice_index bytes 1) ≡ true → MarkIs bytes 2
pair_at [] h = absurd cc
pair_at (a ∷ []) h = let p : false ≡ true = (and_parts _ _ (no_null (a ∷ 0 ∷ []) (pair_mark a 0 h))).1 in absurd cc
pair_at (a ∷ (b ∷ rest)) h = record { text = a ∷ b ∷ []; rest = rest; at = refl; len = refl; is = pair_mark a b h }

triple_at : (bytes : Bytes) → is_triple (slice_index bytes 0) (slice_index bytes 1) (slice_index bytes 2) ≡ true → MarkIs bytes 3
triple_at [] h = absurd cc
triple_at (a ∷ []) h = let p : false ≡ true = (and_parts _ _ (no_null (a ∷ 0 ∷ 0 ∷ []) (triple_mark a 0 0 h))).1 in absurd cc
triple_at (a ∷ (b ∷ [])) h = let p : false ≡ true = (and_parts _ _ (and_parts _ _ (no_null (a ∷ b ∷ 0 ∷ []) (triple_mark a b 0 h))).1).1 in absurd cc
triple_at (a ∷ (b ∷ (c ∷ rest))) h = record { text = a ∷ b ∷ c ∷ []; rest = rest; at = refl; len = refl; is = triple_mark a b c h }

pub mark_found : (bytes : Bytes) → 0 < mark_len bytes → MarkIs bytes (mark_len bytes)
mark_found bytes some = by_answer (is_triple (slice_index bytes 0) (slice_index bytes 1) (slice_index bytes 2))
    (λ t. rw t (triple_at bytes t))
    (λ f. by_answer (is_pair (slice_index bytes 0) (slice_index bytes 1))
    (λ t. rw (f, t) (pair_at bytes t))
    (λ g. by_answer (is_single (slice_index bytes 0))
    (λ t. rw (f, g, t) (single_at bytes t))
    (λ h. let none : mark_len bytes ≡ 0 = rw (f, g, h) refl in absurd (omega arith))))

pub mark_some : (text : Bytes) → is_mark text ≡ true → 0 < length text
mark_some [] h = absurd cc
mark_some (b ∷ bs) h = omega arith

pub mark_len_is : (text rest : Bytes) → is_mark text ≡ true → IsLongest (length text) (text ++ rest) → mark_len (text ++ rest) ≡ length text
mark_len_is text rest h longest =
    let low : length text ≤ mark_len (text ++ rest) = mark_longest (text ++ rest) text rest h refl in
    let x = mark_found (text ++ rest) (omega (arith, low, mark_some text h)) in
    omega (arith, low, longest x.text x.rest x.is x.at, x.len)

-- ---- characters

pub character_is : {text : Bytes} → IsCharacter text → (rest : Bytes) → character_len (text ++ rest) ≡ length text
character_is (IsCharacter.plain h) rest = rw h refl
character_is (IsCharacter.escape h) rest = rw h refl

at_two : (bytes : Bytes) → (first bytes == 39) ≡ true → (slice_index bytes 2 == 39) ≡ true → bytes ≡ codes "'" ++ (slice_index bytes 1 ∷ (codes "'" ++ drop 3 bytes))
at_two [] h k = absurd cc
at_two (a ∷ []) h k = absurd cc
at_two (a ∷ (b ∷ [])) h k = absurd cc
at_two (a ∷ (b ∷ (c ∷ more))) h k = ap (λ (x : ℕ). x ∷ b ∷ c ∷ more) (eqb-true a 39 h) ∙ ap (λ (x : ℕ). 39 ∷ b ∷ x ∷ more) (eqb-true c 39 k)

at_three : (bytes : Bytes) → (first bytes == 39) ≡ true → (slice_index bytes 1 == 92) ≡ true → (slice_index bytes 3 == 39) ≡ true → bytes ≡ codes "'\\" ++ (slice_index bytes 2 ∷ (codes "'" ++ drop 4 bytes))
at_three [] h k l = absurd cc
at_three (a ∷ []) h k l = absurd cc
at_three (a ∷ (b ∷ [])) h k l = absurd cc
at_three (a ∷ (b ∷ (c ∷ []))) h k l = absurd cc
at_three (a ∷ (b ∷ (c ∷ (d ∷ more)))) h k l =
    ap (λ (x : ℕ). x ∷ b ∷ c ∷ d ∷ more) (eqb-true a 39 h) ∙ ap (λ (x : ℕ). 39 ∷ x ∷ c ∷ d ∷ more) (eqb-true b 92 k) ∙ ap (λ (x : ℕ). 39 ∷ 92 ∷ c ∷ x ∷ more) (eqb-true d 39 l)

pub record CharacterIs (bytes : Bytes) (n : ℕ) : Type 0 where
  pub text : Bytes
  pub rest : Bytes
  pub at : bytes ≡ text ++ rest
  pub len : length text ≡ n
  pub is : IsCharacter text

pub character_found : (bytes : Bytes) → (first bytes == 39) ≡ true → 0 < character_len bytes → CharacterIs bytes (character_len bytes)
character_found bytes h some = by_answer (is_plain 39 (slice_index bytes 1) && (slice_index bytes 2 == 39))
    (λ t.
    let p = and_parts _ _ t in
    rw t (record { text = codes "'" ++ (slice_index bytes 1 ∷ codes "'"); rest = drop 3 bytes; at = at_two bytes h p.1; len = refl; is = IsCharacter.plain p.0 }))
    (λ f. by_answer ((slice_index bytes 1 == 92) && (is_escape (slice_index bytes 2) && (slice_index bytes 3 == 39)))
    (λ t.
    let p = and_parts _ _ t in
    let q = and_parts _ _ p.1 in
    rw (f, t) (record { text = codes "'\\" ++ (slice_index bytes 2 ∷ codes "'"); rest = drop 4 bytes; at = at_three bytes h p.0 q.1; len = refl; is = IsCharacter.escape q.0 }))
    (λ g. let none : character_len bytes ≡ 0 = rw (f, g) refl in absurd (omega arith)))

-- ---- strings

plain_inside : (b : ℕ) → is_plain 34 b ≡ true → inside_stage b ≡ stage.Inside
plain_inside b h =
    let q : not ((b == 34) || (b == 92)) ≡ true = (and_parts _ _ h).1 in
    by_answer (b == 34) (λ t. let f : not ((b == 34) || (b == 92)) ≡ false = rw t refl in absurd cc)
    (λ f. by_answer (b == 92) (λ t. let g : not ((b == 34) || (b == 92)) ≡ false = rw (f, t) refl in absurd cc)
    (λ g. rw (h, f, g) refl))

-- a literal may go on from the stage
abbrev Ready : Stage → Bytes → Type 0
Ready stage.Inside text = Unit {0}
Ready stage.Escape text = ⊥
Ready stage.Null text = LacksDigit text
Ready stage.Closed text = ⊥
Ready stage.Bad text = ⊥

enters : (s : Stage) (b : ℕ) (bs : Bytes) → Ready s (b ∷ bs) → stage_after s b ≡ inside_stage b
enters stage.Inside b bs h = refl
enters stage.Escape b bs h = absurd h
enters stage.Null b bs h = rw h refl
enters stage.Closed b bs h = absurd h
enters stage.Bad b bs h = absurd h

escape_leads : (b : ℕ) (more : Bytes) → is_escape b ≡ true → (b ≡ 48 → LacksDigit more) → (s : Stage) × (stage_after stage.Escape b ≡ s) × Ready s more × ((o : Option ℕ) → literal_from s o ≡ raised o)
escape_leads b more h k = by_answer (b == 48)
    (λ t. (stage.Null, rw (h, t) refl, k (eqb-true b 48 t), λ o. refl))
    (λ f. (stage.Inside, rw (h, f) refl, tt, λ o. refl))

literal_step : (s : Stage) (b : ℕ) (bs : Bytes) → literal_len s (b ∷ bs) ≡ literal_from (stage_after s b) (literal_len (stage_after s b) bs)
unfolding literal_len
literal_step s b bs = refl

pub literal_is : {text : Bytes} → IsLiteral text → (s : Stage) → Ready s text → (rest : Bytes) → literal_len s (text ++ rest) ≡ Some (length text)
literal_is IsLiteral.close s r rest = literal_step s 34 rest ∙ rw (enters s 34 [] r) refl
literal_is (IsLiteral.plain {b} {more} h l) s r rest =
    literal_step s b (more ++ rest) ∙ rw (enters s b more r, plain_inside b h, literal_is l stage.Inside tt rest) (ap Some (omega arith))
literal_is (IsLiteral.escape {b} {more} h k l) s r rest =
    let x = escape_leads b more h k in
    literal_step s 92 (b ∷ (more ++ rest)) ∙ rw (enters s 92 (b ∷ more) r, literal_step stage.Escape b (more ++ rest), x.1, x.3, literal_is l x.0 x.2 rest) (ap Some (omega arith))

-- what a literal is from a stage on
abbrev Body : Stage → Bytes → Type 0
Body stage.Inside text = IsLiteral text
Body stage.Escape text = (b : ℕ) × (more : Bytes) × (text ≡ b ∷ more) × (is_escape b ≡ true) × (b ≡ 48 → LacksDigit more) × IsLiteral more
Body stage.Null text = LacksDigit text × IsLiteral text
Body stage.Closed text = ⊥
Body stage.Bad text = ⊥

pub record LiteralIs (s : Stage) (bytes : Bytes) (n : ℕ) : Type 0 where
  pub text : Bytes
  pub rest : Bytes
  pub at : bytes ≡ text ++ rest
  pub len : length text ≡ n
  pub is : Body s text

no_body : {G : Type 0} (s : Stage) (text : Bytes) → Body s text → (s ≡ stage.Closed) ⊎ (s ≡ stage.Bad) → G
no_body s text h (inl e) = absurd (subst (λ (s : Stage). Body s text) e h)
no_body s text h (inr e) = absurd (subst (λ (s : Stage). Body s text) e h)

at_escape : (text : Bytes) → Body stage.Escape text → IsLiteral (92 ∷ text)
at_escape text h = subst (λ (y : Bytes). IsLiteral (92 ∷ y)) (sym h.2) (IsLiteral.escape h.3 h.4 h.5)

body_inside : (b : ℕ) (text : Bytes) (s : Stage) → inside_stage b ≡ s → Body s text → IsLiteral (b ∷ text)
body_inside b text s e h = by_test (b == 34) e (λ is same. no_body s text h (inl (sym same)))
    (λ _ e. by_test (b == 92) e (λ is same. subst (λ (x : ℕ). IsLiteral (x ∷ text)) (sym (eqb-true b 92 is)) (at_escape text (subst (λ (s : Stage). Body s text) (sym same) h)))
    (λ _ e. by_test (is_plain 34 b) e (λ is same. IsLiteral.plain is (subst (λ (s : Stage). Body s text) (sym same) h))
    (λ _ same. no_body s text h (inr (sym same)))))

not_null : {G : Type 0} (b : ℕ) → (b == 48) ≡ false → b ≡ 48 → G
not_null b h e = let f : (48 == 48) ≡ false = subst (λ (x : ℕ). (x == 48) ≡ false) e h in absurd cc

body_more : (s t : Stage) (b : ℕ) (text : Bytes) → stage_after s b ≡ t → Body t text → Body s (b ∷ text)
body_more stage.Inside t b text e h = body_inside b text t e h
body_more stage.Escape t b text e h = by_test (is_escape b) e
    (λ is e. by_test (b == 48) e
    (λ _ same. let k : Body stage.Null text = subst (λ (s : Stage). Body s text) (sym same) h in (b, text, refl, is, λ _. k.0, k.1))
    (λ isnt same. let k : Body stage.Inside text = subst (λ (s : Stage). Body s text) (sym same) h in (b, text, refl, is, λ f. not_null b isnt f, k)))
    (λ _ same. no_body t text h (inr (sym same)))
body_more stage.Null t b text e h = by_test (is_digit b) e (λ _ same. no_body t text h (inr (sym same))) (λ isnt e. (isnt, body_inside b text t e h))
body_more stage.Closed t b text e h = no_body t text h (inr (sym e))
body_more stage.Bad t b text e h = no_body t text h (inr (sym e))

closes_inside : (b : ℕ) → inside_stage b ≡ stage.Closed → IsLiteral (b ∷ [])
closes_inside b e = by_test (b == 34) e (λ is _. subst (λ (x : ℕ). IsLiteral (x ∷ [])) (sym (eqb-true b 34 is)) IsLiteral.close)
    (λ _ e. by_test (b == 92) e (λ _ same. absurd cc) (λ _ e. by_test (is_plain 34 b) e (λ _ same. absurd cc) (λ _ same. absurd cc)))

closes : (s : Stage) (b : ℕ) → stage_after s b ≡ stage.Closed → Body s (b ∷ [])
closes stage.Inside b e = closes_inside b e
closes stage.Escape b e = by_test (is_escape b) e (λ _ e. by_test (b == 48) e (λ _ same. absurd cc) (λ _ same. absurd cc)) (λ _ same. absurd cc)
closes stage.Null b e = by_test (is_digit b) e (λ _ same. absurd cc) (λ isnt e. (isnt, closes_inside b e))
closes stage.Closed b e = absurd cc
closes stage.Bad b e = absurd cc

raised_literal : (s t : Stage) (b : ℕ) (bs : Bytes) (n : ℕ) → stage_after s b ≡ t → raised (literal_len t bs) ≡ Some n → ((k : ℕ) → literal_len t bs ≡ Some k → LiteralIs t bs k) → LiteralIs s (b ∷ bs) n
raised_literal s t b bs n e h found = by_raised (literal_len t bs) n h (λ k at is.
    let x = found k at in
    record { text = b ∷ x.text; rest = x.rest; at = ap (λ (y : Bytes). b ∷ y) x.at; len = omega (arith, x.len, is); is = body_more s t b x.text e x.is })

literal_next : (s t : Stage) (b : ℕ) (bs : Bytes) (n : ℕ) → stage_after s b ≡ t → literal_from t (literal_len t bs) ≡ Some n → ((k : ℕ) → literal_len t bs ≡ Some k → LiteralIs t bs k) → LiteralIs s (b ∷ bs) n
literal_next s stage.Inside b bs n e h found = raised_literal s stage.Inside b bs n e h found
literal_next s stage.Escape b bs n e h found = raised_literal s stage.Escape b bs n e h found
literal_next s stage.Null b bs n e h found = raised_literal s stage.Null b bs n e h found
literal_next s stage.Closed b bs n e h found = record { text = b ∷ []; rest = bs; at = refl; len = cc; is = closes s b e }
literal_next s stage.Bad b bs n e h found = absurd cc

pub literal_found : (s : Stage) (bytes : Bytes) (n : ℕ) → literal_len s bytes ≡ Some n → LiteralIs s bytes n
unfolding literal_len
literal_found s [] n h = absurd cc
literal_found s (b ∷ bs) n h = literal_next s (stage_after s b) b bs n refl h (λ k at. literal_found (stage_after s b) bs k at)

-- ---- trigraphs

trigraph_at : (bytes : Bytes) → is_trigraph bytes ≡ true → bytes ≡ codes "??" ++ (slice_index bytes 2 ∷ drop 3 bytes)
trigraph_at [] h = absurd cc
trigraph_at (a ∷ []) h = let p : false ≡ true = (and_parts _ _ (and_parts _ _ h).0).1 in absurd cc
trigraph_at (a ∷ (b ∷ [])) h = let p : false ≡ true = (and_parts _ _ h).1 in absurd cc
trigraph_at (a ∷ (b ∷ (c ∷ more))) h =
    let p = and_parts _ _ (and_parts _ _ h).0 in
    ap (λ (x : ℕ). x ∷ b ∷ c ∷ more) (eqb-true a 63 p.0) ∙ ap (λ (x : ℕ). 63 ∷ x ∷ c ∷ more) (eqb-true b 63 p.1)

pub trigraph_byte : (bytes : Bytes) → is_trigraph bytes ≡ true → (b : ℕ) × (back : Bytes) × (bytes ≡ codes "??" ++ (b ∷ back)) × (is_one_of (codes "=(/)'<!>-") b ≡ true)
trigraph_byte bytes h = (slice_index bytes 2, drop 3 bytes, trigraph_at bytes h, (and_parts _ _ h).1)

pub trigraphs_lack : (bytes : Bytes) → LacksTrigraph bytes → NoneAt is_trigraph bytes
trigraphs_lack [] h = tt
trigraphs_lack (b ∷ bs) h =
    (false_from_ne_true _ (λ t. let x = trigraph_byte (b ∷ bs) t in h [] x.1 x.0 x.3 x.2), trigraphs_lack bs (λ front back c is e. h (b ∷ front) back c is (ap (λ (y : Bytes). b ∷ y) e)))

pub lacks_trigraph : (bytes : Bytes) → NoneAt is_trigraph bytes → LacksTrigraph bytes
lacks_trigraph [] h [] back c is e = absurd cc
lacks_trigraph [] h (f ∷ front) back c is e = absurd cc
lacks_trigraph (b ∷ bs) h [] back c is e = let f : is_trigraph (codes "??" ++ (c ∷ back)) ≡ false = subst (λ (y : Bytes). is_trigraph y ≡ false) e h.0 in absurd cc
lacks_trigraph (b ∷ bs) h (f ∷ front) back c is e = lacks_trigraph bs h.1 front back c is (ap (λ (y : Bytes). drop 1 y) e)
