-- Scans along a loop over the bytes.
use Rattle.std.proofs.Common.{◌≡◌, ◌≢◌, ℕ, ◌+◌, ◌≤◌, ◌<◌, [], ◌∷◌, ◌-◌, length, drop, get_or, cond, refl, sym, ap, ◌∙◌, arith, true, false, Bool, Option, Some, None, option_map}
use Rattle.std.proofs.lemmas.Bool.Decides.{nat_tests}
use Rattle.std.proofs.Math.Nat.{mul-le-mul}
use Rattle.std.proofs.lemmas.List.{at_drop_more, at_drop_all}
use Rattle.std.specs.Prelude.{nat_le, ◌*◌}
use Rattle.c_language.specs.Constants.{digit_value}
use Rattle.c_lex.specs.Numbers.{capped}
use Rattle.c_language.specs.Words.{Bytes}
use Rattle.c_language.specs.Tokens.{name_goes_on}
use Rattle.c_language.proofs.Turns.{one_more, no_more}
use Rattle.c_lex.specs.declared.literal.Stage.{Stage}
use Rattle.c_lex.specs.declared.literal.Stage.TheVariants as stage
use Rattle.c_lex.specs.Scanning.{stage_after, literal_from, literal_len, raised, first_place, run_len, passed}

place_cons : (test : Bytes → Bool) (b : ℕ) (bs : Bytes) (is : Bool) → test (b ∷ bs) ≡ is → first_place test (b ∷ bs) ≡ cond is (Some 0) (raised (first_place test bs))
unfolding first_place
place_cons test b bs is p = rw p refl

place_step : (test : Bytes → Bool) (cs : Bytes) (n : ℕ) (is : Bool) → n < length cs → test (drop n cs) ≡ is → first_place test (drop n cs) ≡ cond is (Some 0) (raised (first_place test (drop (n + 1) cs)))
place_step test cs n is h p = let e = at_drop_more (λ (x : Bytes). x) cs n 0 h in rw e (place_cons test _ _ is (rw e at p))

pub place_more : (test : Bytes → Bool) (cs : Bytes) (n : ℕ) → n < length cs → test (drop n cs) ≡ false → first_place test (drop n cs) ≡ raised (first_place test (drop (n + 1) cs))
place_more test cs n h p = place_step test cs n false h p

pub place_here : (test : Bytes → Bool) (cs : Bytes) (n : ℕ) → n < length cs → test (drop n cs) ≡ true → first_place test (drop n cs) ≡ Some 0
place_here test cs n h p = place_step test cs n true h p

pub place_end : (test : Bytes → Bool) (cs : Bytes) (n : ℕ) → length cs ≤ n → first_place test (drop n cs) ≡ None
unfolding first_place
place_end test cs n h = at_drop_all (first_place test) cs n h

pub shifted : (i : ℕ) (o : Option ℕ) → option_map (λ n. i + n) (raised o) ≡ option_map (λ n. (i + 1) + n) o
shifted i None = refl
shifted i (Some n) = let e : i + (n + 1) ≡ (i + 1) + n = omega arith in ap Some e

-- what is left after a loop of steps
module _ (step : Bytes → ℕ) (n at : ℕ) where
  pub step_taken : {x : Bytes} (rest next : Bytes) → at < n → x ≡ passed step (n - at) rest → next ≡ drop (step rest) rest → x ≡ passed step (n - (at + 1)) next
  unfolding passed
  step_taken rest next below h e = one_more (λ k. passed step k rest) n at below h ∙ ap (passed step (n - (at + 1))) (sym e)

  pub steps_done : {x : Bytes} (rest : Bytes) → n ≤ at → x ≡ passed step (n - at) rest → x ≡ rest
  unfolding passed
  steps_done rest done h = no_more (λ k. passed step k rest) n at done h

goes_on : (s : Stage) (o : Option ℕ) → s ≢ stage.Closed → s ≢ stage.Bad → literal_from s o ≡ raised o
goes_on stage.Inside o a b = refl
goes_on stage.Escape o a b = refl
goes_on stage.Null o a b = refl
goes_on stage.Closed o a b = absurd (a refl)
goes_on stage.Bad o a b = absurd (b refl)

-- a literal along a loop
module _ (cs : Bytes) (n : ℕ) (s t : Stage) (within : n < length cs) (leads : t ≡ stage_after s (get_or cs n 0)) {x : Option ℕ} (so_far : x ≡ option_map (λ k. n + k) (literal_len s (drop n cs))) where
  stepped : literal_len s (drop n cs) ≡ literal_from t (literal_len t (drop (n + 1) cs))
  unfolding literal_len
  stepped = at_drop_more (literal_len s) cs n 0 within ∙ ap (λ (u : Stage). literal_from u (literal_len u (drop (n + 1) cs))) (sym leads)

  pub literal_closed : t ≡ stage.Closed → x ≡ Some (n + 1)
  literal_closed e = so_far ∙ ap (option_map (λ k. n + k)) (stepped ∙ ap (λ (u : Stage). literal_from u (literal_len t (drop (n + 1) cs))) e)

  pub literal_bad : t ≡ stage.Bad → x ≡ None
  literal_bad e = so_far ∙ ap (option_map (λ k. n + k)) (stepped ∙ ap (λ (u : Stage). literal_from u (literal_len t (drop (n + 1) cs))) e)

  pub literal_more : t ≢ stage.Closed → t ≢ stage.Bad → x ≡ option_map (λ k. (n + 1) + k) (literal_len t (drop (n + 1) cs))
  literal_more a b = so_far ∙ ap (option_map (λ k. n + k)) (stepped ∙ goes_on t (literal_len t (drop (n + 1) cs)) a b) ∙ shifted n (literal_len t (drop (n + 1) cs))

pub literal_end : (s : Stage) (cs : Bytes) (n : ℕ) → length cs ≤ n → literal_len s (drop n cs) ≡ None
unfolding literal_len
literal_end s cs n h = at_drop_all (literal_len s) cs n h

-- the value of digits along a loop
capped_more : (n v d : ℕ) (ds : Bytes) (w : ℕ) → v ≤ 18446744073709551615 → w ≡ v * n + digit_value d → capped n v (d ∷ ds) ≡ capped n w ds
capped_more n v d ds w h k = let t : nat_le v 18446744073709551615 ≡ true = grind (arith, nat_tests) in ap (λ (u : ℕ). capped n u ds) (capped_sum n v d w t k)
  where
    capped_sum : (n v d w : ℕ) → nat_le v 18446744073709551615 ≡ true → w ≡ v * n + digit_value d → cond (nat_le v 18446744073709551615) (v * n + digit_value d) v ≡ w
    capped_sum n v d w t k = rw t (sym k)

capped_stays : (n v d : ℕ) (ds : Bytes) → 18446744073709551615 < v → capped n v (d ∷ ds) ≡ capped n v ds
capped_stays n v d ds h = let f : nat_le v 18446744073709551615 ≡ false = grind (arith, nat_tests) in ap (λ (u : ℕ). capped n u ds) (capped_not n v d f)
  where
    capped_not : (n v d : ℕ) → nat_le v 18446744073709551615 ≡ false → cond (nat_le v 18446744073709551615) (v * n + digit_value d) v ≡ v
    capped_not n v d f = rw f refl

pub digit_taken : (n v : ℕ) (ds : Bytes) (i : ℕ) {x : ℕ} (w : ℕ) → i < length ds → v ≤ 18446744073709551615 → x ≡ capped n v (drop i ds) → w ≡ v * n + digit_value (get_or ds i 0) → x ≡ capped n w (drop (i + 1) ds)
digit_taken n v ds i w h t e k = e ∙ at_drop_more (capped n v) ds i 0 h ∙ capped_more n v (get_or ds i 0) (drop (i + 1) ds) w t k

pub digit_left : (n v : ℕ) (ds : Bytes) (i : ℕ) {x : ℕ} (w : ℕ) → i < length ds → 18446744073709551615 < v → x ≡ capped n v (drop i ds) → w ≡ v → x ≡ capped n w (drop (i + 1) ds)
digit_left n v ds i w h t e k = e ∙ at_drop_more (capped n v) ds i 0 h ∙ capped_stays n v (get_or ds i 0) (drop (i + 1) ds) t ∙ ap (λ (u : ℕ). capped n u (drop (i + 1) ds)) (sym k)

pub digit_bound : (v n d w : ℕ) → v ≤ 18446744073709551615 → n ≤ 16 → d ≤ 16 → w ≡ v * n + d → w ≤ 1180591620717411303424
digit_bound v n d w h k l e = let p : v * n ≤ 18446744073709551615 * 16 = mul-le-mul h k in omega arith

-- a run along a loop
run_cons : (g : ℕ → ℕ → Bool) (b c : ℕ) (cs : Bytes) (is : Bool) → g b c ≡ is → run_len g b (c ∷ cs) ≡ cond is (run_len g c cs + 1) 0
unfolding run_len
run_cons g b c cs is h = rw h refl

pub run_stops : (g : ℕ → ℕ → Bool) (b : ℕ) (cs : Bytes) (n : ℕ) {x : ℕ} → n < length cs → g b (get_or cs n 0) ≡ false → x ≡ n + run_len g b (drop n cs) → x ≡ n
run_stops g b cs n h t e = let f = at_drop_more (run_len g b) cs n 0 h ∙ run_cons g b (get_or cs n 0) (drop (n + 1) cs) false t in omega (arith, e, f)

pub run_goes : (g : ℕ → ℕ → Bool) (b : ℕ) (cs : Bytes) (n : ℕ) {x : ℕ} → n < length cs → g b (get_or cs n 0) ≡ true → x ≡ n + run_len g b (drop n cs) → x ≡ (n + 1) + run_len g (get_or cs n 0) (drop (n + 1) cs)
run_goes g b cs n h t e = let f = at_drop_more (run_len g b) cs n 0 h ∙ run_cons g b (get_or cs n 0) (drop (n + 1) cs) true t in omega (arith, e, f)

pub run_ends : (g : ℕ → ℕ → Bool) (b : ℕ) (cs : Bytes) (n : ℕ) {x : ℕ} → length cs ≤ n → n ≤ length cs → x ≡ n + run_len g b (drop n cs) → x ≡ length cs
unfolding run_len
run_ends g b cs n h k e = let f = at_drop_all (run_len g b) cs n h in omega (arith, e, f)

pub name_anywhere : (a b : ℕ) (cs : Bytes) → run_len name_goes_on a cs ≡ run_len name_goes_on b cs
unfolding run_len
name_anywhere a b [] = refl
name_anywhere a b (c ∷ cs) = refl
