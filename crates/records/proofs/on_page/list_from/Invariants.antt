-- `records::on_page::list_from` meets its contract. The loop's invariant: the values that are left are still to be
-- passed over from `at` on. Assumes nothing.
use Rattle.std.proofs.Common.{◌≡◌, ◌-◌, drop}
use Rattle.page.proofs.ListLaws.{passed}
use Rattle.records.proofs.on_page.list_from.Given as goal

abbrev pub invariant-loop : goal.invariant-loop
invariant-loop g l =
    let reader = g.T.OnPage.reader in
    passed reader l.count (drop l.start l.page) ≡ passed reader (l.count - l.counter) (drop l.at l.page)
