use Rattle.std.proofs.Common.{◌≡◌}
use Rattle.std.specs.Slice.Iter.{chunks_exact_rest, chunks_exact_size}
use Rattle.console.specs.Page.{page, put_all}
use Rattle.console.specs.Shown.{shown}
use Rattle.console.specs.Digits.{bytes_of}
use Rattle.console.proofs.digits.put_bytes.Given as goal

-- what is left, put after what is there, gives what the whole gives
abbrev pub invariant-loop-digits : goal.invariant-loop-digits
invariant-loop-digits l = record {
  pairs : chunks_exact_size l.digits-iterator ≡ 2;
  same_buffer : l.page.bytes.ghost_name ≡ l.initial.page.bytes.ghost_name;
  text : put_all (bytes_of (chunks_exact_rest l.digits-iterator)) (page l.page.bytes.now l.used) ≡ put_all (bytes_of l.word) (shown l.initial.page);
}
