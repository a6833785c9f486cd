-- `put_all`: the records of the words from an address on, laid where the last one ended, give the whole image laid.
use Rattle.std.proofs.Common.{get_or, arith}
use Rattle.text.proofs.Laid.{goes_on, all_laid}
use Rattle.image.specs.Records.{record_of}
use Rattle.image.proofs.Putting.{after_first, after_last}
use Rattle.image.proofs.Records.{bytes_length, one_record}
use Rattle.image.proofs.put_all.Goals as goal

pub loop-address-preserved : goal.loop-address-preserved
loop-address-preserved c =
    let here = c.loop-address in
    let words = c.args.words.now in
    let put = c.put-at.ensures in
    let word = get_or words here.address 0 in
    record {
      fits = omega (arith, put.behind, bytes_length (record_of here.address word), one_record here.address word);
      still = goes_on (rw (after_first words here.address c.loop-address-test.true) at here.invariant.still) put;
    }

pub returns : goal.returns
returns c = all_laid (rw (after_last c.args.words.now c.loop-address.address (omega arith)) at c.loop-address.invariant.still)
