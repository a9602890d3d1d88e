-- The page of the desk. Nothing unfolds these two but the functions that return them: a proof that
-- looks into the page takes minutes.
use Rattle.std.specs.Prelude.{ℕ, List}
use Rattle.desk.specs.declared.page.TheConstants.{PAGE}
use Rattle.desk.specs.declared.policy.TheConstants.{POLICY}

-- the page: the text of the constant in the source, byte for byte
unfoldable pub page_text : List ℕ
page_text = PAGE.now

-- the policy of the page: the text of the other constant
unfoldable pub page_policy : List ℕ
page_policy = POLICY.now
