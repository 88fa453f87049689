-- `rules::write::put_offsets` meets its contract: each call wrote its part, for the place of the id.
use Rattle.pattern.specs.Windows.{windows_of}
use Rattle.rules.proofs.Windows.{offsets-made}
use Rattle.rules.proofs.write.put_offsets.Goals as goal

pub returns : goal.returns
returns c =
    let a = c.args in
    offsets-made a.words.now a.id (windows_of a.bounds) c.requires.0 c.requires.1 c.put_number.new.words c.put_number-2.new.words c.put_digits.new.words
    c.has_window.result c.place_of-k.result c.place_of-k.ensures.1 c.has_window.ensures c.put_number.ensures c.put_number-2.ensures c.put_digits.ensures
