use Rattle.std.proofs.Common.{◌≡◌, ◌+◌, length}
use Rattle.volt_form.specs.Form.{head, head_size, lines_of, after_lines, wrong_from}
use Rattle.volt_form.proofs.head.read_head.Given as goal

abbrev pub invariant-loop-line : goal.invariant-loop-line
invariant-loop-line l = record {
  calls : after_lines head (lines_of l.text).ended ≡ after_lines (lines_of l.wanted).ended (lines_of l.after).ended;
  rest : (lines_of l.text).rest ≡ (lines_of l.after).rest;
  wrong : wrong_from 1 head (lines_of l.text).ended (lines_of l.text).rest
      ≡ wrong_from l.number (lines_of l.wanted).ended (lines_of l.after).ended (lines_of l.after).rest;
  number : l.number + length (lines_of l.wanted).ended ≡ head_size + 1;
}

abbrev pub decreases-loop-line : goal.decreases-loop-line
decreases-loop-line l = length l.wanted
