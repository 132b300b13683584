-- Lists that grow, call by call and turn by turn.
use Rattle.std.proofs.Common.{◌≡◌, ℕ, zero, suc, ◌+◌, ◌<◌, ◌≤◌, List, [], ◌∷◌, ◌++◌, length, take, drop, get_or, Bool, Option, append_assoc, append-nil, arith, sym, ap, ◌∙◌}
use Rattle.std.specs.Prelude.{◌||◌}
use Rattle.std.proofs.lemmas.List.{drop_all}
use Rattle.c_tree.specs.declared.statement.Arm.{Arm}
use Rattle.c_tree.specs.declared.statement.Label.{Label}
use Rattle.c_tree.specs.declared.statement.Statement.{Statement}
use Rattle.c_language.specs.Code.{is_default, has_default}
use Rattle.dep_model.specs.declared.skeleton.Pair.{Pair}
use Rattle.dep_model.proofs.NumberedFrom.{drop_item}
use Rattle.flow_graph.specs.Walk.{flow, flows, if_taken, arm_flows, some_default}
use Rattle.c_language.proofs.Tests.{or_none, or_assoc}

-- a list from its end on
module _ (own : ℕ → List ℕ) where
  pub pairs_turn : (xs : List Statement) (next : Option ℕ) (i left : ℕ) (x : Statement) (at : Option ℕ) (start out new : List Pair) → left ≡ i + 1 → i < length xs → get_or xs i x ≡ x → at ≡ (flows own (drop left xs)).start next → out ≡ start ++ (flows own (drop left xs)).pairs next → new ≡ out ++ (flow own x).pairs at → new ≡ start ++ (flows own (drop i xs)).pairs next
  pairs_turn xs next i left x at start out new l lt is s p q =
      let d = drop_item xs i x lt is in
      let rest = drop (i + 1) xs in
      let s2 : at ≡ (flows own rest).start next = s ∙ ap (λ n. (flows own (drop n xs)).start next) l in
      let p2 : out ≡ start ++ (flows own rest).pairs next = p ∙ ap (λ n. start ++ (flows own (drop n xs)).pairs next) l in
      q ∙ ap (λ y. y ++ (flow own x).pairs at) p2 ∙ ap (λ a. (start ++ (flows own rest).pairs next) ++ (flow own x).pairs a) s2 ∙ append_assoc start ((flows own rest).pairs next) ((flow own x).pairs ((flows own rest).start next)) ∙ ap (λ ys. start ++ (flows own ys).pairs next) (sym d)

  pub start_turn : (xs : List Statement) (next : Option ℕ) (i left : ℕ) (x : Statement) (at new : Option ℕ) → left ≡ i + 1 → i < length xs → get_or xs i x ≡ x → at ≡ (flows own (drop left xs)).start next → new ≡ (flow own x).start at → new ≡ (flows own (drop i xs)).start next
  start_turn xs next i left x at new l lt is s q =
      q ∙ ap (flow own x).start (s ∙ ap (λ n. (flows own (drop n xs)).start next) l) ∙ ap (λ ys. (flows own ys).start next) (sym (drop_item xs i x lt is))

  pub nothing_left : (xs : List Statement) (n : ℕ) → length xs ≤ n → flows own (drop n xs) ≡ flows own []
  nothing_left xs n le = ap (flows own) (drop_all n xs le)

  -- arms, one after another
  arms_more : (test : List ℕ) (k : Option ℕ) (ws : List Bool) (xs : List Arm) (i : ℕ) (v : Bool) (d : Arm) → length ws ≡ length xs → i < length xs → arm_flows own test (take (i + 1) ws) (take (i + 1) xs) k ≡ arm_flows own test (take i ws) (take i xs) k ++ if_taken own test (get_or ws i v) (get_or xs i d).body k
  arms_more test k ws [] i v d same h = absurd (omega (arith, h))
  arms_more test k [] (x ∷ xs) i v d same h = absurd (omega (arith, same))
  arms_more test k (w ∷ ws) (x ∷ xs) zero v d same h = append-nil (if_taken own test w x.body k)
  arms_more test k (w ∷ ws) (x ∷ xs) (suc i) v d same h =
      let n : suc i + 1 ≡ suc (i + 1) = omega arith in
      let s : length ws ≡ length xs = omega (arith, same) in
      ap (λ (n : ℕ). arm_flows own test (take n (w ∷ ws)) (take n (x ∷ xs)) k) n ∙ ap (λ y. if_taken own test w x.body k ++ y) (arms_more test k ws xs i v d s (omega (arith, h))) ∙ sym (append_assoc (if_taken own test w x.body k) (arm_flows own test (take i ws) (take i xs) k) (if_taken own test (get_or ws i v) (get_or xs i d).body k))

  pub arms_turn : (test : List ℕ) (k : Option ℕ) (ws : List Bool) (xs : List Arm) (i : ℕ) (w : Bool) (x : Arm) (start out new : List Pair) → length ws ≡ length xs → i < length xs → w ≡ get_or ws i w → x ≡ get_or xs i x → out ≡ start ++ arm_flows own test (take i ws) (take i xs) k → new ≡ out ++ if_taken own test w x.body k → new ≡ start ++ arm_flows own test (take (i + 1) ws) (take (i + 1) xs) k
  arms_turn test k ws xs i w x start out new same h v is p q =
      q ∙ ap (λ y. out ++ if_taken own test y x.body k) v ∙ ap (λ (y : Arm). out ++ if_taken own test (get_or ws i w) y.body k) is ∙ ap (λ y. y ++ if_taken own test (get_or ws i w) (get_or xs i x).body k) p ∙ append_assoc start (arm_flows own test (take i ws) (take i xs) k) (if_taken own test (get_or ws i w) (get_or xs i x).body k) ∙ ap (λ y. start ++ y) (sym (arms_more test k ws xs i w x same h))

-- ---- defaults

pub labels_more : (ls : List Label) (i : ℕ) (l : Label) → i < length ls → get_or ls i l ≡ l → has_default (take (i + 1) ls) ≡ (has_default (take i ls) || is_default l)
labels_more [] i l lt is = absurd (omega (arith, lt))
labels_more (x ∷ ls) zero l lt is = or_none (is_default x) ∙ ap is_default is
labels_more (x ∷ ls) (suc i) l lt is =
    let n : suc i + 1 ≡ suc (i + 1) = omega arith in
    ap (λ (n : ℕ). has_default (take n (x ∷ ls))) n ∙ ap (λ b. is_default x || b) (labels_more ls i l (omega (arith, lt)) is) ∙ sym (or_assoc (is_default x) (has_default (take i ls)) (is_default l))

pub defaults_more : (as_ : List Arm) (i : ℕ) (a : Arm) → i < length as_ → get_or as_ i a ≡ a → some_default (take (i + 1) as_) ≡ (some_default (take i as_) || has_default a.labels)
defaults_more [] i a lt is = absurd (omega (arith, lt))
defaults_more (x ∷ as_) zero a lt is = or_none (has_default x.labels) ∙ ap (λ (y : Arm). has_default y.labels) is
defaults_more (x ∷ as_) (suc i) a lt is =
    let n : suc i + 1 ≡ suc (i + 1) = omega arith in
    ap (λ (n : ℕ). some_default (take n (x ∷ as_))) n ∙ ap (λ b. has_default x.labels || b) (defaults_more as_ i a (omega (arith, lt)) is) ∙ sym (or_assoc (has_default x.labels) (some_default (take i as_)) (has_default a.labels))
