use Rattle.std.proofs.Common.{◌≡◌, ◌+◌, ◌≤◌, ◌++◌, length, option_map, vec_len}
use Rattle.volt_form.specs.Form.{head_size, most_calls, lines_of, calls_of_lines, wrong_call}
use Rattle.volt_form.proofs.reader.read_calls.Given as goal

abbrev pub invariant-loop-line : goal.invariant-loop-line
invariant-loop-line l = record {
  calls : calls_of_lines (lines_of l.text).ended ≡ option_map (λ more. l.calls.items ++ more) (calls_of_lines (lines_of l.rest).ended);
  wrong : wrong_call (head_size + 1) (lines_of l.text).ended (lines_of l.text).rest
      ≡ wrong_call (head_size + 1 + vec_len l.calls) (lines_of l.rest).ended (lines_of l.rest).rest;
  few : vec_len l.calls ≤ most_calls;
}

abbrev pub decreases-loop-line : goal.decreases-loop-line
decreases-loop-line l = length l.rest
