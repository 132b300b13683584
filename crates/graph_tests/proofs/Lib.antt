pub mod FewWords
