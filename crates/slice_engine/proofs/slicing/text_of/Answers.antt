use Rattle.std.proofs.Common.{◌↔◌, ◌++◌, ℕ, List, Bool, length, ap, subst, ◌∙◌, arith}
use Rattle.std.specs.Prelude.{Contains}
use Rattle.c_language.specs.Layout.{layout}
use Rattle.c_print.proofs.LayoutLength.{few_lines}
use Rattle.slice_engine.specs.Slice.{header}
use Rattle.slice_engine.specs.Header.{shown_lines}
use Rattle.slice_engine.proofs.EngineLaws.{short_enough}
use Rattle.slice_engine.proofs.SliceLaws.{is_slice, is_read}
use Rattle.slice_engine.proofs.slicing.text_of.Goals as goal

pub lines_of-requires : goal.lines_of-requires
lines_of-requires c =
    let q = c.in_ok-sliced.sliced.program in
    let size = ap length c.bytes.ensures ∙ ap length c.in_ok-layout.ensures in
    let short = short_enough (length c.bytes.result.now) c.is_too_long.result c.is_too_long.ensures c.if-is_too_long.false in
    record { fits = omega (arith, few_lines q, size, short) }

pub returns-clause-slice : goal.returns-clause-slice
returns-clause-slice c =
    let q = c.in_ok-sliced.sliced.program in
    let w = c.in_ok-sliced.sliced.in_criterion.items in
    let lines = c.in_ok-lines.lines.items in
    let shown = c.in_ok-shown.shown.items in
    let exact : (k : ℕ) → Contains shown k ↔ Contains (shown_lines w lines) k = subst (λ (xs : List Bool). (k : ℕ) → Contains shown k ↔ Contains (shown_lines xs lines) k) c.as_slice.ensures.value (subst (λ (ls : List ℕ). (k : ℕ) → Contains shown k ↔ Contains (shown_lines c.as_slice.result.now ls) k) c.as_slice-2.ensures.value c.in_ok-shown.ensures.exact) in
    let text = c.in_ok-append.ensures.ok ∙ ap (λ b. c.in_ok-text.text ++ b) (c.bytes-2.ensures ∙ c.in_ok-layout.ensures) ∙ ap (λ b. b ++ layout q) (c.in_ok-text.ensures ∙ ap (header c.args.line) c.as_slice-3.ensures.value) in
    is_slice c.args.p.now c.args.line q w c.requires.passing.prepared.well_formed c.in_ok-sliced.ensures.sliced lines shown c.append.new.self c.in_ok-lines.ensures.lines c.in_ok-shown.ensures.ascending exact text

pub returns-clause-read : goal.returns-clause-read
returns-clause-read c =
    let q = c.in_ok-sliced.sliced.program in
    let w = c.in_ok-sliced.sliced.in_criterion.items in
    let lines = c.in_ok-lines.lines.items in
    let shown = c.in_ok-shown.shown.items in
    let exact : (k : ℕ) → Contains shown k ↔ Contains (shown_lines w lines) k = subst (λ (xs : List Bool). (k : ℕ) → Contains shown k ↔ Contains (shown_lines xs lines) k) c.as_slice.ensures.value (subst (λ (ls : List ℕ). (k : ℕ) → Contains shown k ↔ Contains (shown_lines c.as_slice.result.now ls) k) c.as_slice-2.ensures.value c.in_ok-shown.ensures.exact) in
    let text = c.in_ok-append.ensures.ok ∙ ap (λ b. c.in_ok-text.text ++ b) (c.bytes-2.ensures ∙ c.in_ok-layout.ensures) ∙ ap (λ b. b ++ layout q) (c.in_ok-text.ensures ∙ ap (header c.args.line) c.as_slice-3.ensures.value) in
    let low = c.ranges.line.fits in
    let size = ap length c.bytes.ensures ∙ ap length c.in_ok-layout.ensures in
    let short = short_enough (length c.bytes.result.now) c.is_too_long.result c.is_too_long.ensures c.if-is_too_long.false in
    is_read c.args.p.now c.args.line q w c.requires.passing.prepared.well_formed c.in_ok-sliced.ensures.sliced lines shown c.append.new.self c.in_ok-lines.ensures.lines exact (omega (arith, low)) (omega (arith, size, short)) text
