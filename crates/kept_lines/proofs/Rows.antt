-- One more row at the end of a text.
use Rattle.std.proofs.Common.{◌≡◌, ℕ, ◌+◌, ◌<◌, List, [], ◌∷◌, ◌++◌, length, take, slice_index_or, refl, sym, ap, ◌∙◌, subst, add-one, append-nil, append_assoc}
use Rattle.std.proofs.lemmas.List.{map-append}
use Rattle.std.proofs.Math.Seq.{take-suc}
use Rattle.c_tree.specs.declared.program.Program.{Program}
use Rattle.c_language.specs.Words.{Bytes}
use Rattle.slice_engine.specs.declared.engine.Criterion.{Criterion}
use Rattle.kept_lines.specs.Lines.{AreKeptLines, IsLinesText, lines_of, row}

row_behind : (p : Program) (xs : List ℕ) (line : ℕ) (text : Bytes) (lines : List ℕ) → IsLinesText p xs text → AreKeptLines p line lines → IsLinesText p (xs ++ line ∷ []) (text ++ row line lines)
row_behind p [] line text lines is are = (lines, [], are, refl, ap (λ b. b ++ row line lines) is ∙ sym (append-nil (row line lines)))
row_behind p (x ∷ xs) line text lines (first, behind, of_first, rest, is) are =
    (first, behind ++ row line lines, of_first, row_behind p xs line behind lines rest are, ap (λ b. b ++ row line lines) is ∙ append_assoc (row x first) behind (row line lines))

pub row_added : (p : Program) (list : List Criterion) (i : ℕ) (c : Criterion) (text after : Bytes) (lines : List ℕ) → i < length list → IsLinesText p (lines_of (take i list)) text
    → AreKeptLines p (slice_index_or list i c).line lines → after ≡ text ++ row (slice_index_or list i c).line lines → IsLinesText p (lines_of (take (i + 1) list)) after
row_added p list i c text after lines lt before are is =
    let more : take (i + 1) list ≡ take i list ++ slice_index_or list i c ∷ [] = ap (λ n. take n list) (add-one i) ∙ take-suc list i c lt in
    let mapped : lines_of (take (i + 1) list) ≡ lines_of (take i list) ++ (slice_index_or list i c).line ∷ [] =
    ap lines_of more ∙ map-append (λ (d : Criterion). d.line) (take i list) (slice_index_or list i c ∷ []) in
    subst (λ xs. IsLinesText p xs after) (sym mapped) (subst (IsLinesText p (lines_of (take i list) ++ (slice_index_or list i c).line ∷ [])) (sym is) (row_behind p (lines_of (take i list)) (slice_index_or list i c).line text lines before are))
