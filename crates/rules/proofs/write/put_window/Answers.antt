-- `rules::write::put_window` meets its contract: the end offsets, the mark of the table, the
-- lengths.
use Rattle.pattern.specs.Windows.{windows_of}
use Rattle.rules.proofs.Windows.{window-made}
use Rattle.rules.proofs.write.put_window.Goals as goal

pub returns : goal.returns
returns c =
    let a = c.args in
    window-made a.words.now a.id (windows_of a.bounds) c.requires.0 c.requires.1 c.put_offsets.new.words c.put_lengths.new.words c.put_shortest.new.words
    c.put_offsets.ensures c.put_lengths.ensures c.put_shortest.ensures
