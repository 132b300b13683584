use Rattle.std.proofs.Common.{rules, Err, ◌<◌, ◌^◌, [], ◌∷◌, ◌++◌, ◌≡◌, ◌+◌, length, length-drop, take, drop, sym, ap, ◌∙◌, arith}
use Rattle.std.proofs.lemmas.Bool.{eqb-true, eqb-false}
use Rattle.c_language.specs.TokenForms.{of_kind}
use Rattle.c_language.specs.Tokens.{line_feeds}
use Rattle.c_lex.specs.declared.fault.LexFault.TheVariants.{BadByte}
use Rattle.c_lex.specs.Scanning.{after_space}
use Rattle.c_lex.proofs.FrontLaws.{piece_within}
use Rattle.c_lex.proofs.ScanLaws.{scan_empty, scan_done, stopped, space_kept, token_kept, feeds_kept, feeds_still}
use Rattle.c_lex.proofs.lexer.scan.Goals as goal
use Rattle.c_lex.proofs.lexer.scan.Goals.{in-Space, in-Token+in_ok-push_token-in-Token}

pub returns-then-is_empty : goal.returns-then-is_empty
returns-then-is_empty c = c.loop-turn.invariant.same ∙ scan_empty _ _ _ _ _ (eqb-true _ _ (sym c.is_empty.ensures ∙ c.if-is_empty.true))

pub front-some-requires : goal.front-some-requires
front-some-requires c =
    let some : length c.loop-turn.bytes.now ≡ 0 → ⊥ = eqb-false _ _ (sym c.is_empty.ensures ∙ c.if-is_empty.false) in
    piece_within c.loop-turn.before c.loop-turn.bytes.now _ (omega (arith, some)) c.in-Space.ensures

pub behind-requires : goal.behind-requires
behind-requires c =
    let some : length c.loop-turn.bytes.now ≡ 0 → ⊥ = eqb-false _ _ (sym c.is_empty.ensures ∙ c.if-is_empty.false) in
    let w = piece_within c.loop-turn.before c.loop-turn.bytes.now _ (omega (arith, some)) c.in-Token.ensures in
    omega (arith, w.0, w.1)

pub front-text-requires : goal.front-text-requires
front-text-requires c =
    let some : length c.loop-turn.bytes.now ≡ 0 → ⊥ = eqb-false _ _ (sym c.is_empty.ensures ∙ c.if-is_empty.false) in
    let w = piece_within c.loop-turn.before c.loop-turn.bytes.now _ (omega (arith, some)) c.in-Token.ensures in
    omega (arith, w.0, w.1, ap length c.behind.ensures, length-drop c.in-Token.text_at c.loop-turn.bytes.now)

pub behind-bytes-requires-in-Token : goal.behind-bytes-requires-in-Token
behind-bytes-requires-in-Token c =
    let some : length c.loop-turn.bytes.now ≡ 0 → ⊥ = eqb-false _ _ (sym c.is_empty.ensures ∙ c.if-is_empty.false) in
    (piece_within c.loop-turn.before c.loop-turn.bytes.now _ (omega (arith, some)) c.in-Token.ensures).0

pub front-requires : goal.front-requires
front-requires c =
    let some : length c.loop-turn.bytes.now ≡ 0 → ⊥ = eqb-false _ _ (sym c.is_empty.ensures ∙ c.if-is_empty.false) in
    let w = piece_within c.loop-turn.before c.loop-turn.bytes.now _ (omega (arith, some)) c.in-SplitEnd.ensures in
    omega (arith, w)

pub overflow_add-result-in-SplitEnd : goal.overflow_add-result-in-SplitEnd
overflow_add-result-in-SplitEnd c =
    let some : length c.loop-turn.bytes.now ≡ 0 → ⊥ = eqb-false _ _ (sym c.is_empty.ensures ∙ c.if-is_empty.false) in
    let w : c.in-SplitEnd.at < length c.loop-turn.bytes.now = piece_within c.loop-turn.before c.loop-turn.bytes.now _ (omega (arith, some)) c.in-SplitEnd.ensures in
    let low : c.loop-turn.feeds + 1 + c.line_feeds.result < 2 ^ 32 = omega (arith, w, c.line_feeds.ensures.bound, c.front.ensures.len, c.loop-turn.invariant.fits, c.requires) in
    search rules

pub returns-in-SplitEnd : goal.returns-in-SplitEnd
returns-in-SplitEnd c =
    let some : length c.loop-turn.bytes.now ≡ 0 → ⊥ = eqb-false _ _ (sym c.is_empty.ensures ∙ c.if-is_empty.false) in
    stopped _ c.loop-turn._turn c.loop-turn.before (c.loop-turn.feeds + 1) c.loop-turn.found.items c.loop-turn.bytes.now c.loop-turn-test.true some c.loop-turn.invariant.same _ c.in-SplitEnd.ensures
    ∙ ap (λ n. Err (BadByte (c.loop-turn.feeds + 1 + n))) (sym (c.line_feeds.ensures.value ∙ ap line_feeds c.front.ensures.value))

pub returns-in-Open : goal.returns-in-Open
returns-in-Open c =
    let some : length c.loop-turn.bytes.now ≡ 0 → ⊥ = eqb-false _ _ (sym c.is_empty.ensures ∙ c.if-is_empty.false) in
    stopped _ c.loop-turn._turn c.loop-turn.before (c.loop-turn.feeds + 1) c.loop-turn.found.items c.loop-turn.bytes.now c.loop-turn-test.true some c.loop-turn.invariant.same _ c.in-Open.ensures

pub returns-in-BadNumber : goal.returns-in-BadNumber
returns-in-BadNumber c =
    let some : length c.loop-turn.bytes.now ≡ 0 → ⊥ = eqb-false _ _ (sym c.is_empty.ensures ∙ c.if-is_empty.false) in
    stopped _ c.loop-turn._turn c.loop-turn.before (c.loop-turn.feeds + 1) c.loop-turn.found.items c.loop-turn.bytes.now c.loop-turn-test.true some c.loop-turn.invariant.same _ c.in-BadNumber.ensures

pub returns-in-BadByte : goal.returns-in-BadByte
returns-in-BadByte c =
    let some : length c.loop-turn.bytes.now ≡ 0 → ⊥ = eqb-false _ _ (sym c.is_empty.ensures ∙ c.if-is_empty.false) in
    stopped _ c.loop-turn._turn c.loop-turn.before (c.loop-turn.feeds + 1) c.loop-turn.found.items c.loop-turn.bytes.now c.loop-turn-test.true some c.loop-turn.invariant.same _ c.in-BadByte.ensures

pub loop-turn-preserved : goal.loop-turn-preserved
loop-turn-preserved c =
    let some : length c.loop-turn.bytes.now ≡ 0 → ⊥ = eqb-false _ _ (sym c.is_empty.ensures ∙ c.if-is_empty.false) in
    elim c.match-piece_of.branch [
      | in-Space w ↦
          let fed : w.line_feeds-feeds.result ≡ line_feeds (take w.in-Space.len c.loop-turn.bytes.now) = w.line_feeds-feeds.ensures.value ∙ ap line_feeds w.front-some.ensures.value in
          let left : c.match-piece_of.bytes.now ≡ drop w.in-Space.len c.loop-turn.bytes.now = ap (λ b. b.now) w.bytes-is ∙ w.behind-bytes.ensures in
          record {
            same = rw w.found-is
                (space_kept _ c.loop-turn._turn c.loop-turn.before (c.loop-turn.feeds + 1) c.loop-turn.found.items c.loop-turn.bytes.now c.loop-turn-test.true some c.loop-turn.invariant.same w.in-Space.len _ _ _ w.in-Space.ensures
                (w.before-is ∙ w.after_space-before.ensures ∙ ap (λ y. after_space y c.loop-turn.before) w.front-some.ensures.value) (omega (arith, w.feeds-is, fed)) left);
            fits = rw w.feeds-is
                (feeds_kept c.loop-turn.feeds w.in-Space.len w.line_feeds-feeds.result (length c.args.text.now) c.loop-turn.bytes.now _ c.loop-turn.invariant.fits (omega (arith, w.line_feeds-feeds.ensures.bound, w.front-some.ensures.len))
                (piece_within c.loop-turn.before c.loop-turn.bytes.now _ (omega (arith, some)) w.in-Space.ensures) left);
          }
      | in-Token+in_ok-push_token-in-Token w ↦
          let left : c.match-piece_of.bytes.now ≡ drop w.in-Token.len c.loop-turn.bytes.now = ap (λ b. b.now) w.bytes-is ∙ w.behind-bytes-in-Token.ensures in
          let text : w.front-text.result.now ≡ take w.in-Token.text_len (drop w.in-Token.text_at c.loop-turn.bytes.now) = w.front-text.ensures.value ∙ ap (take w.in-Token.text_len) w.behind.ensures in
          record {
            same = rw (w.before-is, w.feeds-is)
                (token_kept _ c.loop-turn._turn c.loop-turn.before (c.loop-turn.feeds + 1) c.loop-turn.found.items c.loop-turn.bytes.now c.loop-turn-test.true some c.loop-turn.invariant.same w.in-Token.kind w.in-Token.len w.in-Token.text_at w.in-Token.text_len _ _ w.in-Token.ensures
                (ap (λ v. v.items) w.found-is ∙ w.in_ok-push_token-in-Token.ensures ∙ ap (λ t. c.loop-turn.found.items ++ of_kind w.in-Token.kind t (c.loop-turn.feeds + 1) ∷ []) text) left);
            fits = rw w.feeds-is
                (feeds_still c.loop-turn.feeds w.in-Token.len (length c.args.text.now) c.loop-turn.bytes.now _ c.loop-turn.invariant.fits (piece_within c.loop-turn.before c.loop-turn.bytes.now _ (omega (arith, some)) w.in-Token.ensures).0 left);
          }
    ]

pub returns : goal.returns
returns c = scan_done _ c.loop-turn._turn c.loop-turn.before (c.loop-turn.feeds + 1) c.loop-turn.found.items c.loop-turn.bytes.now c.loop-turn-test.false c.loop-turn.invariant.same
