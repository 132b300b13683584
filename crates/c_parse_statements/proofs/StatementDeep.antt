-- Where statements or whole texts are refused as too deep, as many tokens can nest.
use Rattle.std.proofs.Common.{◌≡◌, ℕ, zero, suc, ◌≤◌, List, [], ◌∷◌, ◌++◌, length, drop, ap, arith, Bool, Option, Ok, Err, codes, ◌==◌}
use Rattle.std.proofs.lemmas.Bool.{eqb-true}
use Rattle.c_tree.specs.declared.raw.expr.RawExpr.{RawExpr}
use Rattle.c_tree.specs.declared.raw.expr.RawType.{RawType}
use Rattle.c_tree.specs.declared.raw.statement.RawLabel.{RawLabel}
use Rattle.c_tree.specs.declared.raw.statement.RawArm.{RawArm}
use Rattle.c_tree.specs.declared.raw.statement.RawStatement.{RawStatement}
use Rattle.c_language.specs.Words.{Bytes}
use Rattle.c_language.specs.TokenForms.{Tokens, name, mark, line_of}
use Rattle.c_language.specs.Sees.{sees}
use Rattle.c_language.specs.Nesting.{type_nesting, nesting_tokens}
use Rattle.c_language.specs.StatementGrammar.{IsInit, IsStep, IsLabel, AreLabels, IsTest, test, IsStatement, AreStatements, IsBody, IsElse, AreArms}
use Rattle.c_language.specs.declared.token.TokenKind.TheVariants.{Name, Mark}
use Rattle.c_parse_expr.specs.Outcome.{Parser, Deep, expect}
use Rattle.c_parse_expr.specs.ExprReading.{nested, expression}
use Rattle.c_parse_expr.specs.TypeReading.{begins_type, base}
use Rattle.c_parse_statements.specs.StatementReading as r
use Rattle.c_parse_simple.specs.SimpleReading as reading
use Rattle.c_parse_simple.specs.SimpleReading.{word, nested_simple, nested_declared, nested_declaration}
use Rattle.c_parse_statements.specs.StatementReading.{condition, for_declared, for_simple, for_init, for_step, sees_label, label, labels_from, labels, is_at_end, simple_statement, returned, listed, statements_from, statements, braced, body, alternative, arm_end, arm_of, arms_from, statement_with, nested_statement}
use Rattle.c_parse_words.proofs.SeenTokens.{by_seen}
use Rattle.c_parse_expr.proofs.Tests.{by_step, by_fault, by_expect, ok_parts, expect_fault}
use Rattle.c_parse_expr.proofs.ExprDeep.{expr_tokens, IsDeep, drop_tokens, nested_expr_deep, whole_expr_deep}
use Rattle.c_parse_expr.proofs.TypeLaws.{base_flat}
use Rattle.c_parse_expr.proofs.TypeSound.{base_sound}
use Rattle.c_parse_expr.proofs.TypeDeep.{base_tokens, base_fault}
use Rattle.c_parse_simple.proofs.CallSound.{nested_is, by_word}
use Rattle.c_parse_statements.proofs.StatementSound.{IsSoundly, test_sound, init_sound, step_sound, label_sound, labels_sound, nested_declaration_sound, statements_sound, body_sound, nested_statement_sound}
use Rattle.c_parse_simple.proofs.CallDeep.{word_fault, simple_tokens, declared_tokens, declaration_tokens, simple_deep, declared_deep, declaration_deep}
use Rattle.c_language.proofs.Tests.{by_test}

-- ---- what is read leaves no more tokens that nest

test_tokens : {ts rest : Tokens} {a : RawExpr} → IsTest ts a rest → nesting_tokens rest ≤ nesting_tokens ts
test_tokens (test h) = omega (arith, expr_tokens h)

init_tokens : {ts rest : Tokens} {a : Option RawStatement} → IsInit ts a rest → nesting_tokens rest ≤ nesting_tokens ts
init_tokens IsInit.nothing = omega arith
init_tokens (IsInit.simple h) = let x = simple_tokens h in omega (arith, x)
init_tokens (IsInit.declared h k) = let x = base_tokens h in let y = declared_tokens (base_flat h) k in omega (arith, x, y)

step_tokens : {ts rest : Tokens} {a : Option RawStatement} → IsStep ts a rest → nesting_tokens rest ≤ nesting_tokens ts
step_tokens IsStep.nothing = omega arith
step_tokens (IsStep.simple h) = let x = simple_tokens h in omega (arith, x)

label_tokens : {ts rest : Tokens} {a : RawLabel} → IsLabel ts a rest → nesting_tokens rest ≤ nesting_tokens ts
label_tokens (IsLabel.case h) = omega (arith, expr_tokens h)
label_tokens IsLabel.default = omega arith

labels_tokens : {ts rest : Tokens} {all : List RawLabel} → AreLabels ts all rest → nesting_tokens rest ≤ nesting_tokens ts
labels_tokens (AreLabels.last h) = label_tokens h
labels_tokens (AreLabels.more h k) = let x = label_tokens h in omega (arith, x, labels_tokens k)

mutual
  pub statement_tokens : {ts rest : Tokens} {a : RawStatement} → IsStatement ts a rest → nesting_tokens rest ≤ nesting_tokens ts
  statement_tokens (IsStatement.simple h) = let x = simple_tokens h in omega (arith, x)
  statement_tokens IsStatement.returns = omega arith
  statement_tokens (IsStatement.returns_value h) = omega (arith, expr_tokens h)
  statement_tokens (IsStatement.block h) = omega (arith, statements_tokens h)
  statement_tokens (IsStatement.conditional h k j) = let x = test_tokens h in omega (arith, x, body_tokens k, else_tokens j)
  statement_tokens (IsStatement.while_loop h k) = let x = test_tokens h in omega (arith, x, body_tokens k)
  statement_tokens (IsStatement.do_loop h k) = let x = test_tokens k in omega (arith, x, body_tokens h)
  statement_tokens (IsStatement.for_loop h k j i) = let x = init_tokens h in let y = step_tokens j in omega (arith, x, expr_tokens k, y, body_tokens i)
  statement_tokens (IsStatement.switch h k) = let x = test_tokens h in omega (arith, x, arms_tokens k)

  pub statements_tokens : {ts rest : Tokens} {all : List RawStatement} → AreStatements ts all rest → nesting_tokens rest ≤ nesting_tokens ts
  statements_tokens AreStatements.done = omega arith
  statements_tokens (AreStatements.empty h) = omega (arith, statements_tokens h)
  statements_tokens (AreStatements.declared h k) = let x = declaration_tokens h in omega (arith, x, statements_tokens k)
  statements_tokens (AreStatements.more h k) = omega (arith, statement_tokens h, statements_tokens k)

  pub body_tokens : {ts rest : Tokens} {all : List RawStatement} → IsBody ts all rest → nesting_tokens rest ≤ nesting_tokens ts
  body_tokens (IsBody.braces h) = omega (arith, statements_tokens h)
  body_tokens IsBody.nothing = omega arith
  body_tokens (IsBody.single p h) = statement_tokens h

  pub else_tokens : {ts rest : Tokens} {all : List RawStatement} → IsElse ts all rest → nesting_tokens rest ≤ nesting_tokens ts
  else_tokens (IsElse.otherwise h) = omega (arith, body_tokens h)
  else_tokens (IsElse.without p) = omega arith

  pub arms_tokens : {ts rest : Tokens} {all : List RawArm} → AreArms ts all rest → nesting_tokens rest ≤ nesting_tokens ts
  arms_tokens AreArms.none = omega arith
  arms_tokens (AreArms.broken h k j) = let x = labels_tokens h in omega (arith, x, statements_tokens k, arms_tokens j)
  arms_tokens (AreArms.unbroken h p k) = let x = labels_tokens h in omega (arith, x, statements_tokens k)

-- ---- parts of statements

condition_deep : (d : ℕ) → IsDeep d (condition d)
unfolding condition
condition_deep d ts h = by_fault (expect (codes "(") ts) _ h (expect_fault (codes "(") ts) (λ u mid went h.
    by_expect (codes "(") ts mid u went (λ l at.
    let y : nesting_tokens ts ≡ nesting_tokens (mark (codes "(") l ∷ mid) = ap nesting_tokens at in
    by_fault (nested d 1 mid) _ h
    (λ h. let x = nested_expr_deep d 1 (omega arith) (omega arith) mid h in omega (arith, x, y))
    (λ a after _ h. by_fault (expect (codes ")") after) _ h (expect_fault (codes ")") after) (λ _ _ _ h. absurd cc))))

nested_simple_deep : (d : ℕ) → IsDeep d (nested_simple d)
unfolding nested_simple
nested_simple_deep zero ts h = omega arith
nested_simple_deep (suc d) ts h = simple_deep d ts h

nested_declared_deep : (d line : ℕ) (b : RawType) → type_nesting b ≡ 0 → IsDeep d (nested_declared d line b)
unfolding nested_declared
nested_declared_deep zero line b flat ts h = omega arith
nested_declared_deep (suc d) line b flat ts h = declared_deep d line b flat ts h

nested_declaration_deep : (d : ℕ) → IsDeep d (nested_declaration d)
unfolding nested_declaration
nested_declaration_deep zero ts h = omega arith
nested_declaration_deep (suc d) ts h = declaration_deep d ts h

for_simple_deep : (d : ℕ) (close : Bytes) → IsDeep d (for_simple d close)
unfolding for_simple
for_simple_deep d close ts h = by_fault (nested_simple d ts) _ h (nested_simple_deep d ts) (λ a mid _ h. by_fault (expect close mid) _ h (expect_fault close mid) (λ _ _ _ h. absurd cc))

for_declared_deep : (d : ℕ) → IsDeep d (for_declared d)
unfolding for_declared
for_declared_deep d ts h = by_fault (base ts) _ h (base_fault ts) (λ b mid went h.
    let is = base_sound ts mid b went in
    let y = base_tokens is in
    by_fault (nested_declared d (line_of ts) b mid) _ h
    (λ h. let x = nested_declared_deep d (line_of ts) b (base_flat is) mid h in omega (arith, x, y))
    (λ a after _ h. by_fault (expect (codes ";") after) _ h (expect_fault (codes ";") after) (λ _ _ _ h. absurd cc)))

for_init_deep : (d : ℕ) → IsDeep d (for_init d)
unfolding for_init
for_init_deep d ts h = by_test (sees Mark (codes ";") ts) h (λ _ h. absurd cc)
    (λ _ h. by_test (begins_type ts) h (λ _ h. for_declared_deep d ts h) (λ _ h. for_simple_deep d (codes ";") ts h))

for_step_deep : (d : ℕ) → IsDeep d (for_step d)
unfolding for_step
for_step_deep d ts h = by_test (sees Mark (codes ")") ts) h (λ _ h. absurd cc) (λ _ h. for_simple_deep d (codes ")") ts h)

label_deep : (d : ℕ) → IsDeep d (label d)
unfolding label
label_deep d ts h = by_test (sees Name (codes "case") ts) h
    (λ _ h. by_fault (nested d 1 (drop 1 ts)) _ h
    (λ h. let x = nested_expr_deep d 1 (omega arith) (omega arith) (drop 1 ts) h in let y = drop_tokens ts in omega (arith, x, y))
    (λ a mid _ h. by_fault (expect (codes ":") mid) _ h (expect_fault (codes ":") mid) (λ _ _ _ h. absurd cc)))
    (λ _ h. by_fault (word (codes "default") ts) _ h (word_fault (codes "default") ts) (λ _ mid _ h. by_fault (expect (codes ":") mid) _ h (expect_fault (codes ":") mid) (λ _ _ _ h. absurd cc)))

labels_from_deep : (d turns : ℕ) (found : List RawLabel) → IsDeep d (labels_from d turns found)
unfolding labels_from
labels_from_deep d zero found ts h = absurd cc
labels_from_deep d (suc turns) found ts h = by_fault (label d ts) _ h (label_deep d ts) (λ a mid went h.
    by_test (sees_label mid) h
    (λ _ h. let x = labels_from_deep d turns (found ++ a ∷ []) mid h in let y = label_tokens (label_sound d ts a mid went) in omega (arith, x, y))
    (λ _ h. absurd cc))

simple_statement_deep : (d : ℕ) → IsDeep (suc d) (simple_statement d)
unfolding simple_statement
simple_statement_deep d ts h = by_fault (reading.simple d ts) _ h (simple_deep d ts) (λ a mid _ h. by_fault (expect (codes ";") mid) _ h (expect_fault (codes ";") mid) (λ _ _ _ h. absurd cc))

returned_deep : (d line : ℕ) → IsDeep (suc d) (returned d line)
unfolding returned
returned_deep d line ts h = by_test (sees Mark (codes ";") ts) h (λ _ h. absurd cc)
    (λ _ h. by_fault (expression d 1 ts) _ h (whole_expr_deep d 1 (omega arith) (omega arith) ts) (λ a mid _ h. by_fault (expect (codes ";") mid) _ h (expect_fault (codes ";") mid) (λ _ _ _ h. absurd cc)))

-- ---- statements

module _ (inner : Parser RawStatement) (d : ℕ) (sound : IsSoundly inner) (deep : IsDeep d inner) where
  listed_deep : IsDeep d (listed inner d)
  unfolding listed
  listed_deep ts h = by_test (sees Mark (codes ";") ts) h (λ _ h. absurd cc)
      (λ _ h. by_test (begins_type ts) h (λ _ h. nested_declaration_deep d ts h) (λ _ h. by_fault (inner ts) _ h (deep ts) (λ _ _ _ h. absurd cc)))

  listed_falls : (ts : Tokens) (some : List RawStatement) (rest : Tokens) → listed inner d ts ≡ Ok (some, rest) → nesting_tokens rest ≤ nesting_tokens ts
  unfolding listed
  listed_falls ts some rest h = by_test (sees Mark (codes ";") ts) h
      (λ _ h. let e : drop 1 ts ≡ rest = (ok_parts h).1 in let x = drop_tokens ts in let y : nesting_tokens (drop 1 ts) ≡ nesting_tokens rest = ap nesting_tokens e in omega (arith, x, y))
      (λ _ h. by_test (begins_type ts) h (λ _ h. declaration_tokens (nested_declaration_sound d ts some rest h))
      (λ _ h. by_step (inner ts) _ h (λ a mid went h. let e : mid ≡ rest = (ok_parts h).1 in let x = statement_tokens (sound ts a mid went) in let y : nesting_tokens mid ≡ nesting_tokens rest = ap nesting_tokens e in omega (arith, x, y))))

  statements_from_deep : (turns : ℕ) (found : List RawStatement) → IsDeep d (statements_from inner d turns found)
  unfolding statements_from
  statements_from_deep zero found ts h = absurd cc
  statements_from_deep (suc turns) found ts h = by_test (is_at_end ts) h (λ _ h. absurd cc)
      (λ _ h. by_fault (listed inner d ts) _ h (listed_deep ts) (λ some mid went h.
      let x = statements_from_deep turns (found ++ some) mid h in
      let y = listed_falls ts some mid went in
      omega (arith, x, y)))

  pub braced_deep : IsDeep d (braced inner d)
  unfolding braced
  braced_deep ts h = by_fault (statements inner d ts) _ h (statements_from_deep (length ts) [] ts) (λ all mid _ h. by_fault (expect (codes "}") mid) _ h (expect_fault (codes "}") mid) (λ _ _ _ h. absurd cc))

  body_deep : IsDeep d (body inner d)
  unfolding body
  body_deep ts h = by_test (sees Mark (codes "{") ts) h
      (λ _ h. let x = braced_deep (drop 1 ts) h in let y = drop_tokens ts in omega (arith, x, y))
      (λ _ h. by_test (sees Mark (codes ";") ts) h (λ _ h. absurd cc) (λ _ h. by_fault (inner ts) _ h (deep ts) (λ _ _ _ h. absurd cc)))

  else_deep : IsDeep d (alternative inner d)
  unfolding alternative
  else_deep ts h = by_test (sees Name (codes "else") ts) h (λ _ h. let x = body_deep (drop 1 ts) h in let y = drop_tokens ts in omega (arith, x, y)) (λ _ h. absurd cc)

  if_deep : (line : ℕ) → IsDeep d (r.conditional inner d line)
  unfolding r.conditional
  if_deep line ts h = by_fault (condition d ts) _ h (condition_deep d ts) (λ a mid went h.
      let x = test_tokens (test_sound d ts a mid went) in
      by_fault (body inner d mid) _ h (λ h. let y = body_deep mid h in omega (arith, x, y)) (λ all after went2 h.
      let y = body_tokens (body_sound inner d sound mid all after went2) in
      by_fault (alternative inner d after) _ h (λ h. let z = else_deep after h in omega (arith, x, y, z)) (λ _ _ _ h. absurd cc)))

  while_deep : (line : ℕ) → IsDeep d (r.while_loop inner d line)
  unfolding r.while_loop
  while_deep line ts h = by_fault (condition d ts) _ h (condition_deep d ts) (λ a mid went h.
      let x = test_tokens (test_sound d ts a mid went) in
      by_fault (body inner d mid) _ h (λ h. let y = body_deep mid h in omega (arith, x, y)) (λ _ _ _ h. absurd cc))

  do_deep : (line : ℕ) → IsDeep d (r.do_loop inner d line)
  unfolding r.do_loop
  do_deep line ts h = by_fault (body inner d ts) _ h (body_deep ts) (λ all mid went h.
      let x = body_tokens (body_sound inner d sound ts all mid went) in
      by_fault (word (codes "while") mid) _ h (word_fault (codes "while") mid) (λ u after begun h.
      by_word (codes "while") mid after u begun (λ m at.
      let y : nesting_tokens mid ≡ nesting_tokens (name (codes "while") m ∷ after) = ap nesting_tokens at in
      by_fault (condition d after) _ h (λ h. let z = condition_deep d after h in omega (arith, x, y, z))
      (λ t last _ h. by_fault (expect (codes ";") last) _ h (expect_fault (codes ";") last) (λ _ _ _ h. absurd cc)))))

  for_deep : (line : ℕ) → IsDeep d (r.for_loop inner d line)
  unfolding r.for_loop
  for_deep line ts h = by_fault (expect (codes "(") ts) _ h (expect_fault (codes "(") ts) (λ u mid opened h.
      by_expect (codes "(") ts mid u opened (λ m at.
      let z : nesting_tokens ts ≡ nesting_tokens (mark (codes "(") m ∷ mid) = ap nesting_tokens at in
      by_fault (for_init d mid) _ h (λ h. let x = for_init_deep d mid h in omega (arith, x, z)) (λ first after went h.
      let x = init_tokens (init_sound d mid first after went) in
      by_fault (nested d 1 after) _ h (λ h. let y = nested_expr_deep d 1 (omega arith) (omega arith) after h in omega (arith, x, y, z)) (λ t next went2 h.
      let y = expr_tokens (nested_is d after t next went2) in
      by_fault (expect (codes ";") next) _ h (expect_fault (codes ";") next) (λ v past closed h.
      by_expect (codes ";") next past v closed (λ k at2.
      let w : nesting_tokens next ≡ nesting_tokens (mark (codes ";") k ∷ past) = ap nesting_tokens at2 in
      by_fault (for_step d past) _ h (λ h. let q = for_step_deep d past h in omega (arith, x, y, z, w, q)) (λ step beyond went3 h.
      let q = step_tokens (step_sound d past step beyond went3) in
      by_fault (body inner d beyond) _ h (λ h. let p = body_deep beyond h in omega (arith, x, y, z, w, q, p)) (λ _ _ _ h. absurd cc))))))))

  end_fault : {G : Type 0} (is_empty : Bool) (marks : List RawLabel) (all : List RawStatement) (ts : Tokens) → arm_end inner d is_empty marks all ts ≡ Err Deep → G
  unfolding arm_end
  end_fault is_empty marks all ts h = by_test (sees Name (codes "break") ts) h
      (λ _ h. by_fault (expect (codes ";") (drop 1 ts)) _ h (expect_fault (codes ";") (drop 1 ts)) (λ _ _ _ h. absurd cc))
      (λ _ h. by_test is_empty h (λ _ h. absurd cc) (λ _ h. by_fault (expect (codes "}") ts) _ h (expect_fault (codes "}") ts) (λ _ _ _ h. absurd cc)))

  arm_deep : IsDeep d (arm_of inner d)
  unfolding arm_of
  arm_deep ts h = by_fault (labels d ts) _ h (labels_from_deep d (length ts) [] ts) (λ marks mid went h.
      let x = labels_tokens (labels_sound d ts marks mid went) in
      by_fault (statements inner d mid) _ h (λ h. let y = statements_from_deep (length mid) [] mid h in omega (arith, x, y))
      (λ all here _ h. end_fault (sees Mark (codes "}") mid) marks all here h))

  end_falls : (is_empty : Bool) (marks : List RawLabel) (all : List RawStatement) (ts : Tokens) (x : RawArm × Bool) (rest : Tokens) → arm_end inner d is_empty marks all ts ≡ Ok (x, rest) → nesting_tokens rest ≤ nesting_tokens ts
  unfolding arm_end
  end_falls is_empty marks all ts x rest h = by_test (sees Name (codes "break") ts) h
      (λ _ h. by_step (expect (codes ";") (drop 1 ts)) _ h (λ u past closed h.
      by_expect (codes ";") (drop 1 ts) past u closed (λ m at.
      let e : nesting_tokens past ≡ nesting_tokens rest = ap nesting_tokens (ok_parts h).1 in
      let y = drop_tokens ts in
      let z : nesting_tokens (drop 1 ts) ≡ nesting_tokens (mark (codes ";") m ∷ past) = ap nesting_tokens at in
      omega (arith, e, y, z))))
      (λ _ h. by_test is_empty h (λ _ h. absurd cc)
      (λ _ h. by_step (expect (codes "}") ts) _ h (λ u past closed h.
      by_expect (codes "}") ts past u closed (λ l at.
      let e : nesting_tokens past ≡ nesting_tokens rest = ap nesting_tokens (ok_parts h).1 in
      let z : nesting_tokens ts ≡ nesting_tokens (mark (codes "}") l ∷ past) = ap nesting_tokens at in
      omega (arith, e, z)))))

  arm_falls : (ts : Tokens) (x : RawArm × Bool) (rest : Tokens) → arm_of inner d ts ≡ Ok (x, rest) → nesting_tokens rest ≤ nesting_tokens ts
  unfolding arm_of
  arm_falls ts x rest h = by_step (labels d ts) _ h (λ marks mid went h.
      by_step (statements inner d mid) _ h (λ all here went2 h.
      let p = labels_tokens (labels_sound d ts marks mid went) in
      let q = statements_tokens (statements_sound inner d sound mid all here went2) in
      let w = end_falls (sees Mark (codes "}") mid) marks all here x rest h in
      omega (arith, p, q, w)))

  arms_deep : (turns : ℕ) (found : List RawArm) → IsDeep d (arms_from inner d turns found)
  unfolding arms_from
  arms_deep zero found ts h = absurd cc
  arms_deep (suc turns) found ts h = by_test (sees Mark (codes "}") ts) h (λ _ h. absurd cc)
      (λ _ h. by_fault (arm_of inner d ts) _ h (arm_deep ts) (λ x mid went h.
      by_test x.1 h
      (λ _ h. let p = arms_deep turns (found ++ x.0 ∷ []) mid h in let q = arm_falls ts x mid went in omega (arith, p, q))
      (λ _ h. absurd cc)))

  switch_deep : (line : ℕ) → IsDeep d (r.switch inner d line)
  unfolding r.switch
  switch_deep line ts h = by_fault (condition d ts) _ h (condition_deep d ts) (λ a mid went h.
      let x = test_tokens (test_sound d ts a mid went) in
      by_fault (expect (codes "{") mid) _ h (expect_fault (codes "{") mid) (λ u after opened h.
      by_expect (codes "{") mid after u opened (λ m at.
      let z : nesting_tokens mid ≡ nesting_tokens (mark (codes "{") m ∷ after) = ap nesting_tokens at in
      by_fault (arms_from inner d (length after) [] after) _ h (λ h. let y = arms_deep (length after) [] after h in omega (arith, x, y, z)) (λ _ _ _ h. absurd cc))))

  block_deep : (line : ℕ) → IsDeep d (r.block inner d line)
  unfolding r.block
  block_deep line ts h = by_test (d == 0) h
      (λ is _. let e : d ≡ 0 = eqb-true d 0 is in omega (arith, e))
      (λ _ h. by_fault (braced inner d ts) _ h (braced_deep ts) (λ _ _ _ h. absurd cc))

  -- a word or a brace in front nests
  statement_deep : IsDeep (suc d) (statement_with inner d)
  unfolding statement_with
  statement_deep ts h = by_test (sees Name (codes "if") ts) h
      (λ is h. by_seen Name (codes "if") ts is (λ l mid at. let y : nesting_tokens ts ≡ nesting_tokens (name (codes "if") l ∷ mid) = ap nesting_tokens at in let e = ap (drop 1) at in let x = if_deep (line_of ts) mid (rw e at h) in omega (arith, x, y)))
      (λ _ h. by_test (sees Name (codes "while") ts) h
      (λ is h. by_seen Name (codes "while") ts is (λ l mid at. let y : nesting_tokens ts ≡ nesting_tokens (name (codes "while") l ∷ mid) = ap nesting_tokens at in let e = ap (drop 1) at in let x = while_deep (line_of ts) mid (rw e at h) in omega (arith, x, y)))
      (λ _ h. by_test (sees Name (codes "do") ts) h
      (λ is h. by_seen Name (codes "do") ts is (λ l mid at. let y : nesting_tokens ts ≡ nesting_tokens (name (codes "do") l ∷ mid) = ap nesting_tokens at in let e = ap (drop 1) at in let x = do_deep (line_of ts) mid (rw e at h) in omega (arith, x, y)))
      (λ _ h. by_test (sees Name (codes "for") ts) h
      (λ is h. by_seen Name (codes "for") ts is (λ l mid at. let y : nesting_tokens ts ≡ nesting_tokens (name (codes "for") l ∷ mid) = ap nesting_tokens at in let e = ap (drop 1) at in let x = for_deep (line_of ts) mid (rw e at h) in omega (arith, x, y)))
      (λ _ h. by_test (sees Name (codes "switch") ts) h
      (λ is h. by_seen Name (codes "switch") ts is (λ l mid at. let y : nesting_tokens ts ≡ nesting_tokens (name (codes "switch") l ∷ mid) = ap nesting_tokens at in let e = ap (drop 1) at in let x = switch_deep (line_of ts) mid (rw e at h) in omega (arith, x, y)))
      (λ _ h. by_test (sees Name (codes "return") ts) h
      (λ _ h. let x = returned_deep d (line_of ts) (drop 1 ts) h in let y = drop_tokens ts in omega (arith, x, y))
      (λ _ h. by_test (sees Mark (codes "{") ts) h
      (λ is h. by_seen Mark (codes "{") ts is (λ l mid at. let y : nesting_tokens ts ≡ nesting_tokens (mark (codes "{") l ∷ mid) = ap nesting_tokens at in let e = ap (drop 1) at in let x = block_deep (line_of ts) mid (rw e at h) in omega (arith, x, y)))
      (λ _ h. simple_statement_deep d ts h)))))))

pub nested_statement_deep : (d : ℕ) → IsDeep d (nested_statement d)
unfolding nested_statement
nested_statement_deep zero ts h = omega arith
nested_statement_deep (suc d) ts h = statement_deep (nested_statement d) d (nested_statement_sound d) (nested_statement_deep d) ts h
